-- What the views of a record's parts mean.
use Rattle.std.specs.Prelude.{ℕ, option_map}
use Rattle.wal_record.specs.declared.types.BlockView.{BlockView}
use Rattle.wal_record.specs.declared.types.ImageView.{ImageView}
use Rattle.wal_record.specs.Record.{Image, Block}

abbrev pub image_of_view : ImageView → Image
image_of_view image = record { apply = image.apply; hole_at = image.hole_at; bytes = image.bytes.now }

-- the block that is lent, with its id
abbrev pub block_of_view : ℕ → BlockView → Block
block_of_view id view = record {
  id = id;
  locator = view.locator;
  fork = view.fork;
  block = view.block;
  will_init = view.will_init;
  image = option_map image_of_view view.image;
  payload = view.payload.now;
}
