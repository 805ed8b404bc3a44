-- The client's requests as bytes.
use Rattle.std.specs.Prelude.{ℕ, Option, Some, None, List, ◌∷◌, []}
use Rattle.wire_format.specs.Writer.{append_text}
use Rattle.wire_message.specs.declared.message.Request.{Request}
use Rattle.wire_writing.specs.RequestWriting.{write_request}

-- the texts of requests, one behind the other
abbrev pub requests_text : List Request → Option (List ℕ)
requests_text [] = Some []
requests_text (r ∷ rs) = append_text (write_request.text r) (requests_text rs)

abbrev pub optional_request_text : Option Request → Option (List ℕ)
optional_request_text None = Some []
optional_request_text (Some r) = write_request.text r
