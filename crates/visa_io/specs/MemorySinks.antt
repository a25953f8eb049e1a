-- A sink in memory with a limited room, some of whose puts fail. This project's own.
use Rattle.std.specs.Prelude.{ℕ, ◌==◌, List, [], take, length, Bool, false, if◌then◌else◌, nat_le, find, Option, Some, None, option_map}
use Rattle.visa_io.specs.declared.mem_sink.PutFail.{PutFail}

-- how many bytes the failing call of this number keeps at most: by the first entry for it
abbrev pub kept_at : List PutFail → ℕ → Option ℕ
kept_at fails call = option_map (λ fail. fail.kept) (find (λ fail. fail.call == call) fails)

-- whether a put with this room left takes the piece whole
abbrev pub takes_whole : Option ℕ → ℕ → List ℕ → Bool
takes_whole None left piece = nat_le (length piece) left
takes_whole (Some kept) left piece = false

-- what a put appends: of a failing call the first bytes, as many as are kept and fit; else the piece, if it fits
abbrev pub put_bytes : Option ℕ → ℕ → List ℕ → List ℕ
put_bytes None left piece = if nat_le (length piece) left then piece else []
put_bytes (Some kept) left piece = take left (take kept piece)
