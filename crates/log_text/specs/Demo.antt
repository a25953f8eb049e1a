-- The lines of a demonstration's summary. This project's own.
use Rattle.std.specs.Prelude.{ℕ, List, [], ◌∷◌, ◌++◌, codes}
use Rattle.std.specs.Fmt.{decimal}
use Rattle.text_fields.specs.Numbers.{hex_text}
use Rattle.log_text.specs.Lines.{line}
use Rattle.log_text.specs.declared.demo.Summary.{Summary}

-- a number behind its name
unfoldable pub number_line : List ℕ → ℕ → List ℕ
number_line name n = name ++ (codes " " ++ line (decimal n))

-- the sum of all words of output, as eight digits
unfoldable pub sum_line : ℕ → List ℕ
sum_line sum = codes "sum " ++ line (hex_text sum)

-- the seed; how many jobs ran, how many of them ended in fast mode, and in how many a checkpoint was missed; the
-- greatest end of a job (ps after its release); and the sum
unfoldable pub summary_lines : Summary → List (List ℕ)
summary_lines s =
    number_line (codes "visa 1 demo") s.seed ∷ number_line (codes "jobs") s.jobs ∷ number_line (codes "fast") s.fast
    ∷ number_line (codes "missed") s.missed ∷ number_line (codes "latest") s.latest_ps ∷ sum_line s.sum ∷ []
