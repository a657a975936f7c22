-- What a request of the code means.
use Rattle.session_text.specs.Requests as model
use Rattle.session_text.specs.declared.request.Request.{Request}
use Rattle.session_text.specs.declared.request.Request.TheVariants as request

abbrev pub asked : Request → model.Request
asked request.Status = model.AsksStatus
asked (request.Replay count) = model.Replays count
asked (request.Open table) = model.Opens table.now
asked (request.Next id) = model.Reads id
asked (request.Close id) = model.Closes id
asked request.Unreadable = model.Unreadable
