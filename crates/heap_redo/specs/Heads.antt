-- The header of a tuple that the code keeps, and the items after one was changed.
use Rattle.std.specs.Prelude.{ℕ, List}
use Rattle.heap_page.specs.Item.{Item, numbered, tuple_in}
use Rattle.heap_redo.specs.After.{with_header}
use Rattle.heap_redo.specs.TupleHeads.{Head, head_of, head_bytes}
use Rattle.heap_redo.specs.declared.head.Header.{Header}

-- its fields
abbrev pub head_in : Header → Head
head_in head = record {
  xmin = head.xmin;
  xmax = head.xmax;
  cid = head.cid;
  ctid_block = head.ctid_block;
  ctid_line = head.ctid_line;
  mask2 = head.mask2;
  mask = head.mask;
  hoff = head.hoff;
}

-- the items once the header of a line's tuple changed in this way
abbrev pub headed : List Item → ℕ → (Head → Head) → List Item
headed items line f = with_header items line (head_bytes (f (head_of (tuple_in (numbered items line)))))
