-- The laws of decoding and encoding that callers cite.
use Rattle.std.proofs.Common.{◌≡◌, ◌<◌, ◌^◌, ℕ, Bool, true, false, cond, List, [], ◌∷◌, Option, Some, None, inl, inr, refl, sym, subst, ap, ◌∙◌, IfSome, IfNone}
use Rattle.std.specs.Prelude.{◌==◌}
use Rattle.std.specs.List.{find}
use Rattle.std.proofs.lemmas.Bool.{eqb-true, eq-eqb}
use Rattle.std.proofs.lemmas.Option.{none-some, same_Some}
use Rattle.mips_isa.specs.declared.instr.Instr.{Instr}
use Rattle.mips_isa.specs.Decoding.{decode_of, with_fields}
use Rattle.mips_isa.specs.Encoding.{encode_of, IsReserved, IsWordOf}
use Rattle.mips_isa.specs.Fields.{fields_of}
use Rattle.mips_isa.specs.Fits.{FieldsFit}
use Rattle.mips_isa.specs.Rows.{read_of}
use Rattle.mips_isa.proofs.DecodedRows.{read_of_gives}
use Rattle.mips_isa.proofs.EncodedRows.{read_of-encode_of}
use Rattle.mips_isa.proofs.Found.{find_passes}
use Rattle.mips_isa.proofs.Spelled.{Among, Each, spelled, with_fields_fit}
use Rattle.mips_isa.proofs.WordRange.{encode_of_below}

-- what holds of each item holds of the one that is found
each_here : {X : Type 0} (P : X → Type 0) (y x : X) (later : Option X) → P y → (later ≡ Some x → P x) → (b : Bool) → cond b (Some y) later ≡ Some x → P x
each_here P y x later here go true e = subst P (same_Some y x e) here
each_here P y x later here go false e = go e

find_each : {X : Type 0} (P : X → Type 0) (p : X → Bool) (xs : List X) (x : X) → Each P xs → find p xs ≡ Some x → P x
find_each P p [] x each e = cc
find_each P p (y ∷ ys) x each e =
    each_here P y x (find p ys) each.0 (λ h. find_each P p ys x each.1 h) (p y) e

-- an item that passes the test isn't passed over
not_here : {X : Type 0} (b : Bool) (y : X) (later : Option X) → b ≡ true → cond b (Some y) later ≡ None → ⊥
not_here true y later e h = cc
not_here false y later e h = cc

not_there : {X : Type 0} (b : Bool) (y : X) (later : Option X) → cond b (Some y) later ≡ None → later ≡ None
not_there true y later h = cc
not_there false y later h = h

not_passed : {X : Type 0} (p : X → Bool) (xs : List X) (x : X) → Among x xs → p x ≡ true → find p xs ≡ None → ⊥
not_passed p [] x among passes e = among
not_passed p (y ∷ ys) x (inl same) passes e = not_here (p y) y (find p ys) (ap p same ∙ passes) e
not_passed p (y ∷ ys) x (inr among) passes e = not_passed p ys x among passes (not_there (p y) y (find p ys) e)

-- the instruction that a word is decoded to has this word
pub decode_of_gives : (word : ℕ) (i : Instr) → decode_of word ≡ Some i → IsWordOf word i
unfolding decode_of
decode_of_gives word i e =
    record {
      fits = find_each FieldsFit (λ j. encode_of j == word) (with_fields (fields_of word)) i (with_fields_fit word) e;
      same = eqb-true (encode_of i) word (find_passes (λ j. encode_of j == word) (with_fields (fields_of word)) i e);
    }

-- no word is that of two instructions
pub read_of_word : (word : ℕ) (i : Instr) → IsWordOf word i → read_of word ≡ Some i
read_of_word word i h = subst (λ w. read_of w ≡ Some i) h.same (read_of-encode_of i h.fits)

pub one_instruction : (word : ℕ) (i j : Instr) → IsWordOf word i → IsWordOf word j → i ≡ j
one_instruction word i j h k = same_Some i j (sym (read_of_word word i h) ∙ read_of_word word j k)

-- the word of an instruction is decoded to it
not_none : (word : ℕ) (i : Instr) → IsWordOf word i → decode_of word ≡ None → ⊥
unfolding decode_of
not_none word i h e =
    not_passed (λ j. encode_of j == word) (with_fields (fields_of word)) i
    (subst (λ w. Among i (with_fields (fields_of w))) h.same (spelled i h.fits)) (eq-eqb (encode_of i) word h.same) e

decodes_by : (word : ℕ) (i : Instr) (r : Option Instr) → IsWordOf word i → decode_of word ≡ r → decode_of word ≡ Some i
decodes_by word i None h e = absurd (not_none word i h e)
decodes_by word i (Some j) h e = e ∙ ap Some (one_instruction word j i (decode_of_gives word j e) h)

pub decode_of_word : (word : ℕ) (i : Instr) → IsWordOf word i → decode_of word ≡ Some i
decode_of_word word i h = decodes_by word i (decode_of word) h refl

-- the code's search finds it
none_by : (word : ℕ) (d : Option Instr) → read_of word ≡ None → decode_of word ≡ d → None ≡ d
none_by word None e h = refl
none_by word (Some i) e h = absurd (none-some i (sym e ∙ read_of_word word i (decode_of_gives word i h)))

found_by : (word : ℕ) (r : Option Instr) → read_of word ≡ r → r ≡ decode_of word
found_by word None e = none_by word (decode_of word) e refl
found_by word (Some i) e = sym (decode_of_word word i (read_of_gives word i e))

pub read_of-decode_of : (word : ℕ) → read_of word ≡ decode_of word
read_of-decode_of word = found_by word (read_of word) refl

-- what reading a word gives is the instruction of this word, or none where the word is reserved
pub decoded : (word : ℕ) (r : Option Instr) → r ≡ decode_of word → IfSome r (IsWordOf word)
decoded word None e = tt
decoded word (Some i) e = decode_of_gives word i (sym e)

pub undecoded : (word : ℕ) (r : Option Instr) → r ≡ decode_of word → IfNone r (IsReserved word)
undecoded word None e = λ i h. none-some i (e ∙ decode_of_word word i h)
undecoded word (Some j) e = tt

-- what is decoded fits
pub decode_of_fits : (word : ℕ) (i : Instr) → decode_of word ≡ Some i → FieldsFit i
decode_of_fits word i e = (decode_of_gives word i e).fits

pub decode_of-encode_of : (i : Instr) → FieldsFit i → decode_of (encode_of i) ≡ Some i
decode_of-encode_of i fits = decode_of_word (encode_of i) i (record { fits = fits; same = refl })

-- a word that no instruction has is decoded to none
reserved_by : (word : ℕ) (r : Option Instr) → decode_of word ≡ r → IsReserved word → decode_of word ≡ None
reserved_by word None e h = e
reserved_by word (Some i) e h = absurd (h i (decode_of_gives word i e))

pub reserved_none : (word : ℕ) → IsReserved word → decode_of word ≡ None
reserved_none word h = reserved_by word (decode_of word) refl h

pub ruleset laws = (one_instruction, decode_of_word, decode_of_gives, reserved_none, encode_of_below)
