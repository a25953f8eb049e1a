-- What is read is spelled.
use Rattle.std.proofs.Common.{◌≡◌, inl, inr, Bool, true, false, cond, ◌&&◌, List, [], ◌∷◌, ◌++◌, map, drop, Option, Some, None, unwrap_or, refl, sym, ap, ◌∙◌, subst, codes, append_assoc}
use Rattle.std.specs.List.{list_all, flat_map}
use Rattle.std.specs.Str.{bytes_eq}
use Rattle.std.proofs.lemmas.List.{append-nil}
use Rattle.command_line.specs.Commands.{Word, Argument, name, option, joined, is_name, is_plain, spelled, names_in, predictors_in, dashes_and, predictor_word}
use Rattle.command_line.specs.declared.forms.PredictorKind.{PredictorKind}
use Rattle.command_line.specs.declared.verb.Verb.{Verb}
use Rattle.command_line.proofs.Choices.{chosen, kept, mapped, then_is, same_word, joined_word}
use Rattle.command_line.proofs.WordByWord.{Read, after, after_all, after_argument, one_more, only_once, with_name, with_value, joined_or_name, is_joined, takes_two, takes_option, Place, Arguments, Value, Behind}

abbrev pub put : Place → List Word → Option Word → Read
put place names value = record { place = place; names = names; value = value }

abbrev pub listed : Option Word → List Word
listed None = []
listed (Some w) = w ∷ []

-- the words may end here
abbrev pub is_end : Place → Bool
is_end Arguments = true
is_end Value = false
is_end Behind = true

-- the value of the option is the word of a predictor
abbrev pub HasKind : Option Word → Type 0
HasKind value = (w : Word) → value ≡ Some w → (k : PredictorKind) × (w ≡ predictor_word k)

-- the words are arguments that lead from these names and this value to what was read
pub record Spells (v : Verb) (words : List Word) (ns : List Word) (u : Option Word) (s : Read) : Type 0 where
  pub arguments : List Argument
  pub behind : Option (List Word)
  pub words_are : words ≡ flat_map spelled arguments ++ dashes_and behind
  pub plain : list_all is_plain arguments ≡ true
  pub names_are : s.names ≡ ns ++ (names_in arguments ++ unwrap_or behind [])
  pub value_is : listed s.value ≡ listed u ++ map predictor_word (predictors_in arguments)
  pub allowed : takes_option v ≡ false → predictors_in arguments ≡ []

pub record SpellsValue (v : Verb) (words : List Word) (ns : List Word) (u : Option Word) (s : Read) : Type 0 where
  pub kind : PredictorKind
  pub rest : List Word
  pub words_are : words ≡ predictor_word kind ∷ rest
  pub none_yet : u ≡ None
  pub taken : takes_option v ≡ true
  pub spells : Spells v rest ns (Some (predictor_word kind)) s

pub record SpellsNames (words : List Word) (ns : List Word) (u : Option Word) (s : Read) : Type 0 where
  pub names_are : s.names ≡ ns ++ words
  pub value_is : s.value ≡ u

abbrev pub SpellsAt : Verb → Place → List Word → List Word → Option Word → Read → Type 0
SpellsAt v Arguments words ns u s = Spells v words ns u s
SpellsAt v Value words ns u s = SpellsValue v words ns u s
SpellsAt v Behind words ns u s = SpellsNames words ns u s

-- ---- one word

ended_here : (v : Verb) (ns : List Word) (u : Option Word) (s : Read) → put Arguments ns u ≡ s → Spells v [] ns u s
ended_here v ns u s e = record {
  arguments = [];
  behind = None;
  words_are = refl;
  plain = refl;
  names_are = ap (λ (r : Read). r.names) (sym e) ∙ sym (append-nil ns);
  value_is = ap (λ (r : Read). listed r.value) (sym e) ∙ sym (append-nil (listed u));
  allowed = λ _. refl;
}

dashes : (v : Verb) (w : Word) (ws ns : List Word) (u : Option Word) (s : Read) → w ≡ codes "--" → SpellsNames ws ns u s → Spells v (w ∷ ws) ns u s
dashes v w ws ns u s e h = record {
  arguments = [];
  behind = Some ws;
  words_are = ap (λ x. x ∷ ws) e;
  plain = refl;
  names_are = h.names_are;
  value_is = ap listed h.value_is ∙ sym (append-nil (listed u));
  allowed = λ _. refl;
}

two_words : (v : Verb) (w : Word) (ws ns : List Word) (u : Option Word) (s : Read) → w ≡ codes "--predictor" → SpellsValue v ws ns u s → Spells v (w ∷ ws) ns u s
two_words v w ws ns u s e h = record {
  arguments = option h.kind ∷ h.spells.arguments;
  behind = h.spells.behind;
  words_are = let f = h.words_are in let g = h.spells.words_are in cc;
  plain = h.spells.plain;
  names_are = h.spells.names_are;
  value_is = h.spells.value_is ∙ ap (λ v. listed v ++ predictor_word h.kind ∷ map predictor_word (predictors_in h.spells.arguments)) (sym h.none_yet);
  allowed = λ f. let t = h.taken in cc;
}

one_word : (v : Verb) (w : Word) (k : PredictorKind) (ws ns : List Word) (u : Option Word) (s : Read) → w ≡ codes "--predictor=" ++ predictor_word k → u ≡ None → takes_option v ≡ true → Spells v ws ns (Some (predictor_word k)) s → Spells v (w ∷ ws) ns u s
one_word v w k ws ns u s e n t h = record {
  arguments = joined k ∷ h.arguments;
  behind = h.behind;
  words_are = let g = h.words_are in cc;
  plain = h.plain;
  names_are = h.names_are;
  value_is = h.value_is ∙ ap (λ v. listed v ++ predictor_word k ∷ map predictor_word (predictors_in h.arguments)) (sym n);
  allowed = λ f. cc;
}

a_name : (v : Verb) (w : Word) (ws ns : List Word) (u : Option Word) (s : Read) → is_name w ≡ true → Spells v ws (ns ++ w ∷ []) u s → Spells v (w ∷ ws) ns u s
a_name v w ws ns u s e h = record {
  arguments = name w ∷ h.arguments;
  behind = h.behind;
  words_are = let g = h.words_are in cc;
  plain = ap (λ b. b && list_all is_plain h.arguments) e ∙ h.plain;
  names_are = h.names_are ∙ append_assoc ns (w ∷ []) _;
  value_is = h.value_is;
  allowed = h.allowed;
}

one_more_is : (two : Bool) (ns : List Word) (w : Word) (ms : List Word) → one_more two ns w ≡ Some ms → ms ≡ ns ++ w ∷ []
one_more_is two [] w ms e = cc
one_more_is true (a ∷ []) w ms e = cc
one_more_is false (a ∷ []) w ms e = cc
one_more_is two (a ∷ b ∷ rest) w ms e = cc

-- a name was read
name_read : (v : Verb) (p : Place) (ns : List Word) (u : Option Word) (w : Word) (r : Read) → with_name v (put p ns u) w ≡ Some r → put p (ns ++ w ∷ []) u ≡ r
name_read v p ns u w r e =
    let m = mapped (λ ms. put p ms u) (one_more (takes_two v) ns w) r e in
    let is : m.0 ≡ ns ++ w ∷ [] = one_more_is (takes_two v) ns w m.0 m.1 in
    ap (λ ms. put p ms u) (sym is) ∙ m.2

-- a value was read, the first one
value_read : (v : Verb) (p : Place) (ns : List Word) (u : Option Word) (w : Word) (r : Read) → with_value v (put p ns u) w ≡ Some r → (takes_option v ≡ true) × (u ≡ None) × (put Arguments ns (Some w) ≡ r)
value_read v p ns u w r e = let k = kept (takes_option v) (only_once (put p ns u) w u) r e in let h = by_value u k.1 in (k.0, h.0, h.1)
  where
    by_value : (t : Option Word) → only_once (put p ns u) w t ≡ Some r → (t ≡ None) × (put Arguments ns (Some w) ≡ r)
    by_value None f = (refl, cc)
    by_value (Some given) f = cc

-- a value that stands first stands still
value_stands : (s : Option Word) (w : Word) (more : List Word) → listed s ≡ (w ∷ []) ++ more → s ≡ Some w
value_stands None w more e = cc
value_stands (Some x) w more e = cc

value_kind : (v : Verb) (ws ns : List Word) (w : Word) (s : Read) → HasKind s.value → Spells v ws ns (Some w) s → (k : PredictorKind) × (w ≡ predictor_word k)
value_kind v ws ns w s kinds h = kinds w (value_stands s.value w _ h.value_is)

-- an option in one word, or a name
joined_found : (v : Verb) (w : Word) (ws ns : List Word) (u : Option Word) (s : Read) → (takes_option v ≡ true → HasKind s.value)
    → ((ms : List Word) (x : Option Word) → after_all v (put Arguments ms x) ws ≡ Some s → Spells v ws ms x s)
    → (j : Bool) → is_joined w ≡ j → (r : Read) → joined_or_name v (put Arguments ns u) w (cond j (Some (drop 12 w)) None) ≡ Some r → after_all v r ws ≡ Some s → Spells v (w ∷ ws) ns u s
joined_found v w ws ns u s kinds deeper true is_j r f g =
    let x = value_read v Arguments ns u (drop 12 w) r f in
    let deep = deeper ns (Some (drop 12 w)) (subst (λ (y : Read). after_all v y ws ≡ Some s) (sym x.2) g) in
    let kind = value_kind v ws ns (drop 12 w) s (kinds x.0) deep in
    one_word v w kind.0 ws ns u s (joined_word w is_j ∙ ap (λ y. codes "--predictor=" ++ y) kind.1) x.1 x.0 (subst (λ y. Spells v ws ns (Some y) s) kind.1 deep)
joined_found v w ws ns u s kinds deeper false is_j r f g =
    let k = kept (is_name w) _ _ f in
    let x = name_read v Arguments ns u w r k.1 in
    a_name v w ws ns u s k.0 (deeper (ns ++ w ∷ []) u (subst (λ (y : Read). after_all v y ws ≡ Some s) (sym x) g))

-- ---- all words

pub found : (v : Verb) (ws : List Word) (p : Place) (ns : List Word) (u : Option Word) (s : Read) → after_all v (put p ns u) ws ≡ Some s → is_end s.place ≡ true → (takes_option v ≡ true → HasKind s.value) → SpellsAt v p ws ns u s
unfolding after_all after
found v [] Arguments ns u s e done kinds = ended_here v ns u s cc
found v [] Value ns u s e done kinds = let is : put Value ns u ≡ s = cc in let bad : is_end Value ≡ true = ap (λ (r : Read). is_end r.place) is ∙ done in cc
found v [] Behind ns u s e done kinds = let is : put Behind ns u ≡ s = cc in record { names_are = ap (λ (r : Read). r.names) (sym is) ∙ sym (append-nil ns); value_is = ap (λ (r : Read). r.value) (sym is) }
found v (w ∷ ws) Value ns u s e done kinds =
    let t = then_is (λ r. after_all v r ws) (cond (is_name w) (with_value v (put Value ns u) w) None) s e in
    let k = kept (is_name w) (with_value v (put Value ns u) w) t.0 t.1 in
    let r = value_read v Value ns u w t.0 k.1 in
    let deep : Spells v ws ns (Some w) s = found v ws Arguments ns (Some w) s (subst (λ (x : Read). after_all v x ws ≡ Some s) (sym r.2) t.2) done kinds in
    let kind = value_kind v ws ns w s (kinds r.0) deep in
    record { kind = kind.0; rest = ws; words_are = ap (λ x. x ∷ ws) kind.1; none_yet = r.1; taken = r.0; spells = subst (λ x. Spells v ws ns (Some x) s) kind.1 deep }
found v (w ∷ ws) Behind ns u s e done kinds =
    let t = then_is (λ r. after_all v r ws) (with_name v (put Behind ns u) w) s e in
    let r = name_read v Behind ns u w t.0 t.1 in
    let deep : SpellsNames ws (ns ++ w ∷ []) u s = found v ws Behind (ns ++ w ∷ []) u s (subst (λ (x : Read). after_all v x ws ≡ Some s) (sym r) t.2) done kinds in
    record { names_are = deep.names_are ∙ append_assoc ns (w ∷ []) ws; value_is = deep.value_is }
found v (w ∷ ws) Arguments ns u s e done kinds =
    let t = then_is (λ r. after_all v r ws) (after_argument v (put Arguments ns u) w) s e in
    elim (chosen (bytes_eq w (codes "--")) _ _ _ t.1) [
      | inl a ↦ let is : put Behind ns u ≡ t.0 = cc in
          dashes v w ws ns u s (same_word _ _ a.0) (found v ws Behind ns u s (subst (λ (x : Read). after_all v x ws ≡ Some s) (sym is) t.2) done kinds)
      | inr b ↦ elim (chosen (bytes_eq w (codes "--predictor")) _ _ _ b.1) [
        | inl a ↦ let k = kept (takes_option v) _ _ a.1 in let is : put Value ns u ≡ t.0 = cc in
            two_words v w ws ns u s (same_word _ _ a.0) (found v ws Value ns u s (subst (λ (x : Read). after_all v x ws ≡ Some s) (sym is) t.2) done kinds)
        | inr c ↦ joined_found v w ws ns u s kinds (λ ms x g. found v ws Arguments ms x s g done kinds) (is_joined w) refl t.0 c.1 t.2
      ]
    ]
