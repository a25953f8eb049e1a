-- The lines of the two caches differ in their keyword alone.
use Rattle.std.proofs.Common.{◌≡◌, Bool, true, false, cond, List, ℕ, Option, Some, None, Result, Ok, Err, refl, sym, ap, ◌∙◌}
use Rattle.std.specs.Option.{option_map}
use Rattle.std.proofs.lemmas.Bool.{cond-true, cond-false}
use Rattle.visa_io.specs.declared.records.Shape.{Shape}
use Rattle.task_text.specs.declared.fault.LineKind.{LineKind}
use Rattle.task_text.specs.declared.fault.LineKind.TheVariants.{Value, Field}
use Rattle.task_text.specs.declared.row.Keyword.TheVariants as k
use Rattle.task_text.specs.declared.row.Row.{Row}
use Rattle.task_text.specs.declared.row.Row.TheVariants as row
use Rattle.task_text.specs.Table.{is_formed, in_limits, is_shape_text, is_shape_or_none, is_shape}
use Rattle.task_text.specs.Reading.{parsed, valued, limited, row_of, shape_of, shape_parsed, shape_limited}

-- a shape that was parsed, as a row
abbrev pub shape_row : (Option Shape → Row) → Result (Option Shape) LineKind → Result Row LineKind
shape_row make (Ok s) = Ok (make s)
shape_row make (Err kind) = Err kind

same_row : (make : Option Shape → Row) → ((s : Option Shape) → in_limits (make s) ≡ is_shape_or_none s) → (f : Bool) (o : Option (Option Shape)) → cond f (valued (limited (option_map make o))) (Err Field) ≡ shape_row make (cond f (shape_limited o) (Err Field))
same_row make lim false o = refl
same_row make lim true None = refl
same_row make lim true (Some s) = ap (λ t. valued (cond t (Some (make s)) None)) (lim s) ∙ by (is_shape_or_none s)
  where
    by : (t : Bool) → valued (cond t (Some (make s)) None) ≡ shape_row make (cond t (Ok s) (Err Value))
    by true = refl
    by false = refl

icache_is : (fs : List (List ℕ)) → parsed k.Icache fs ≡ shape_row row.Icache (shape_parsed fs)
unfolding parsed shape_parsed row_of is_formed in_limits
icache_is fs = same_row row.Icache (λ s. refl) (is_shape_text fs) (shape_of fs)

dcache_is : (fs : List (List ℕ)) → parsed k.Dcache fs ≡ shape_row row.Dcache (shape_parsed fs)
unfolding parsed shape_parsed row_of is_formed in_limits
dcache_is fs = same_row row.Dcache (λ s. refl) (is_shape_text fs) (shape_of fs)

pub icache_ok : (fs : List (List ℕ)) (s : Option Shape) → Ok s ≡ shape_parsed fs → Ok (row.Icache s) ≡ parsed k.Icache fs
icache_ok fs s e = ap (shape_row row.Icache) e ∙ sym (icache_is fs)

pub icache_err : (fs : List (List ℕ)) (kind : LineKind) → Err kind ≡ shape_parsed fs → Err kind ≡ parsed k.Icache fs
icache_err fs kind e = ap (shape_row row.Icache) e ∙ sym (icache_is fs)

pub dcache_ok : (fs : List (List ℕ)) (s : Option Shape) → Ok s ≡ shape_parsed fs → Ok (row.Dcache s) ≡ parsed k.Dcache fs
dcache_ok fs s e = ap (shape_row row.Dcache) e ∙ sym (dcache_is fs)

pub dcache_err : (fs : List (List ℕ)) (kind : LineKind) → Err kind ≡ shape_parsed fs → Err kind ≡ parsed k.Dcache fs
dcache_err fs kind e = ap (shape_row row.Dcache) e ∙ sym (dcache_is fs)

-- numbers that were found within limits
found : (t : Bool) (n k : ℕ) → Some n ≡ cond t (Some k) None → n ≡ k
found true n k e = cc
found false n k e = cc

pub shape_fits : (ta tb tc : Bool) (a b c x y z : ℕ) → Some a ≡ cond ta (Some x) None → Some b ≡ cond tb (Some y) None → Some c ≡ cond tc (Some z) None → true ≡ is_shape a b c → Ok (Some (record { sets = a; ways = b; line = c })) ≡ shape_limited (Some (Some (record { sets = x; ways = y; line = z })))
shape_fits ta tb tc a b c x y z ea eb ec t =
    let fa = found ta a x ea in
    let fb = found tb b y eb in
    let fc = found tc c z ec in
    sym (cond-true (is_shape a b c) (Ok (Some (record { sets = a; ways = b; line = c }))) (Err Value) (sym t))
    ∙ (λ i. shape_limited (Some (Some (record { sets = fa i; ways = fb i; line = fc i }))))

pub shape_unfit : (ta tb tc : Bool) (a b c x y z : ℕ) → Some a ≡ cond ta (Some x) None → Some b ≡ cond tb (Some y) None → Some c ≡ cond tc (Some z) None → false ≡ is_shape a b c → Err Value ≡ shape_limited (Some (Some (record { sets = x; ways = y; line = z })))
shape_unfit ta tb tc a b c x y z ea eb ec t =
    let fa = found ta a x ea in
    let fb = found tb b y eb in
    let fc = found tc c z ec in
    sym (cond-false (is_shape a b c) (Ok (Some (record { sets = a; ways = b; line = c }))) (Err Value) (sym t))
    ∙ (λ i. shape_limited (Some (Some (record { sets = fa i; ways = fb i; line = fc i }))))
