-- `clap` finds in the words behind the first one what reading them gives, and fails where reading does.
use Rattle.std.proofs.Common.{◌≡◌, inl, inr, ℕ, Bool, true, false, cond, List, [], ◌∷◌, ◌++◌, drop, Option, Some, None, option_map, refl, sym, ap, ◌∙◌, subst, codes}
use Rattle.std.specs.Prelude.{fold, option_and_then}
use Rattle.std.specs.Option.{option_map_or}
use Rattle.std.specs.Str.{bytes_eq, IsUtf8}
use Rattle.clap.specs.Walk.{Row, Text, Waiting, Walk, idle, arg_by_id, arg_by_index, has_row, settled, settled_rows, used_by_id, walked}
use Rattle.clap.specs.Faults.{settle_fault, turn_fault, use_fault, walk_fault}
use Rattle.clap.specs.Kinds.{or_else}
use Rattle.command_line.specs.Commands.{Word, is_name}
use Rattle.command_line.specs.Parser.{in_order}
use Rattle.command_line.specs.declared.verb.Verb.{Verb}
use Rattle.command_line.proofs.Choices.{same_word, joined_word}
use Rattle.command_line.proofs.Found.{put}
use Rattle.command_line.proofs.Given.{after_name, take_left, take_right}
use Rattle.command_line.proofs.ParserRows.{At, set_rule, rows_for, new_at, old_at, used_first, use_first, use_again}
use Rattle.command_line.proofs.ParserSteps.{rules, leaf, place_of, first_rule, second_rule, third_rule, task_by_id, jobs_by_id, predictor_by_id, arguments_at, value_at, behind_at, Steps, Fails, IsQuiet, or_both, dashes_step, short_fails, value_short_fails, long_fails, name_step, behind_step, stray_name, stray_behind, loud_name, loud_behind, loud_long, option_step, option_refused, joined_step, joined_refused, joined_again, value_step, value_dashes, no_value_yet, value_long_fails}
use Rattle.command_line.proofs.ParserWords.{IsName, IsLong, kinds, other_name}
use Rattle.command_line.proofs.WordByWord.{Read, after, after_all, is_joined, joined_or_name, one_more, only_once, takes_two, takes_option, Place, Arguments, Value, Behind}

abbrev pub first_name : List Word → Option Word
first_name [] = None
first_name (a ∷ ns) = Some a

abbrev pub second_name : List Word → Option Word
second_name [] = None
second_name (a ∷ []) = None
second_name (a ∷ b ∷ ns) = Some b

-- the rows have these names and this value
pub record Holds (rows : List Row) (ns : List Word) (u : Option Word) : Type 0 where
  pub task : At rows (codes "task") (first_name ns)
  pub jobs : At rows (codes "jobs") (second_name ns)
  pub value : At rows (codes "predictor") u
  pub few : in_order (first_name ns) (second_name ns) ≡ ns

pub record IsSettled (v : Verb) (rows : List Row) (pending : Option (Text × List Text)) (ns : List Word) (u : Option Word) : Type 0 where
  pub holds : Holds (settled_rows (rules v) pending rows) ns u
  pub quiet : IsQuiet v rows pending

abbrev pub end_of : Verb → Walk → List Word → Walk
end_of v k ws = fold (walked (rules v) []) k ws

-- the words are taken, with these names and this value
pub record Good (v : Verb) (k : Walk) (ws : List Word) (ns : List Word) (u : Option Word) : Type 0 where
  pub walks : walk_fault (leaf v) [] k ws ≡ []
  pub settles : settle_fault (rules v) false (end_of v k ws).held ≡ []
  pub holds : Holds (settled (rules v) (end_of v k ws).held).rows ns u

-- the words are refused
abbrev pub Bad : Verb → Walk → List Word → Type 0
Bad v k ws = walk_fault (leaf v) [] k ws ≡ [] → settle_fault (rules v) false (end_of v k ws).held ≡ [] → ⊥

abbrev pub TellsAt : Place → Verb → Walk → List Word → List Word → Option Word → Type 0
TellsAt Arguments v k ws ns u = Good v k ws ns u
TellsAt Value v k ws ns u = Bad v k ws
TellsAt Behind v k ws ns u = Good v k ws ns u

abbrev pub Tells : Verb → Walk → List Word → Option Read → Type 0
Tells v k ws None = Bad v k ws
Tells v k ws (Some s) = TellsAt s.place v k ws s.names s.value

-- ---- one word more

good_step : (v : Verb) (k m : Walk) (w : Word) (ws ns : List Word) (u : Option Word) → Steps v k w m → Good v m ws ns u → Good v k (w ∷ ws) ns u
unfolding walk_fault
good_step v k m w ws ns u st g = record {
  walks = ap (λ t. or_else t (walk_fault (leaf v) [] (walked (rules v) [] k w) ws)) st.0 ∙ ap (λ x. walk_fault (leaf v) [] x ws) st.1 ∙ g.walks;
  settles = ap (λ x. settle_fault (rules v) false (end_of v x ws).held) st.1 ∙ g.settles;
  holds = subst (λ (x : Walk). Holds (settled (rules v) (end_of v x ws).held).rows ns u) (sym st.1) g.holds;
}

bad_step : (v : Verb) (k m : Walk) (w : Word) (ws : List Word) → Steps v k w m → Bad v m ws → Bad v k (w ∷ ws)
unfolding walk_fault
bad_step v k m w ws st b e f =
    b (sym (ap (λ t. or_else t (walk_fault (leaf v) [] (walked (rules v) [] k w) ws)) st.0 ∙ ap (λ x. walk_fault (leaf v) [] x ws) st.1) ∙ e)
    (sym (ap (λ x. settle_fault (rules v) false (end_of v x ws).held) st.1) ∙ f)

bad_now : (v : Verb) (k : Walk) (w : Word) (ws : List Word) → Fails v k w → Bad v k (w ∷ ws)
unfolding walk_fault
bad_now v k w ws fails e f = fails (or_both (turn_fault (leaf v) [] k w) (walk_fault (leaf v) [] (walked (rules v) [] k w) ws) e).0

tells_step : (v : Verb) (k m : Walk) (w : Word) (ws : List Word) → Steps v k w m → (o : Option Read) → Tells v m ws o → Tells v k (w ∷ ws) o
tells_step v k m w ws st None t = bad_step v k m w ws st t
tells_step v k m w ws st (Some s) t = by_place s.place t
  where
    by_place : (p : Place) → TellsAt p v m ws s.names s.value → TellsAt p v k (w ∷ ws) s.names s.value
    by_place Arguments g = good_step v k m w ws s.names s.value st g
    by_place Value b = bad_step v k m w ws st b
    by_place Behind g = good_step v k m w ws s.names s.value st g

go_on : (v : Verb) (k m : Walk) (w : Word) (ws : List Word) (r s : Read) → after v r w ≡ Some s → Steps v k w m → Tells v m ws (after_all v s ws) → Tells v k (w ∷ ws) (after_all v r (w ∷ ws))
unfolding after_all
go_on v k m w ws r s e st t = subst (λ x. Tells v k (w ∷ ws) (option_and_then (λ y. after_all v y ws) x)) (sym e) (tells_step v k m w ws st (after_all v s ws) t)

stop_here : (v : Verb) (k : Walk) (w : Word) (ws : List Word) (r : Read) → after v r w ≡ None → Bad v k (w ∷ ws) → Tells v k (w ∷ ws) (after_all v r (w ∷ ws))
unfolding after_all
stop_here v k w ws r e b = subst (λ x. Tells v k (w ∷ ws) (option_and_then (λ y. after_all v y ws) x)) (sym e) b

-- ---- what is held

holds_first : (rows : List Row) (u : Option Word) (w : Word) → Holds rows [] u → Holds (rows ++ rows_for (codes "task") w) (w ∷ []) u
holds_first rows u w h = record { task = new_at rows (codes "task") w h.task; jobs = old_at rows (codes "task") w (codes "jobs") None refl h.jobs; value = old_at rows (codes "task") w (codes "predictor") u refl h.value; few = refl }

holds_second : (rows : List Row) (a : Word) (u : Option Word) (w : Word) → Holds rows (a ∷ []) u → Holds (rows ++ rows_for (codes "jobs") w) (a ∷ w ∷ []) u
holds_second rows a u w h = record { task = old_at rows (codes "jobs") w (codes "task") (Some a) refl h.task; jobs = new_at rows (codes "jobs") w h.jobs; value = old_at rows (codes "jobs") w (codes "predictor") u refl h.value; few = refl }

holds_value : (rows : List Row) (ns : List Word) (w : Word) → Holds rows ns None → Holds (rows ++ rows_for (codes "predictor") w) ns (Some w)
holds_value rows ns w h = record { task = old_at rows (codes "predictor") w (codes "task") (first_name ns) refl h.task; jobs = old_at rows (codes "predictor") w (codes "jobs") (second_name ns) refl h.jobs; value = new_at rows (codes "predictor") w h.value; few = h.few }

pending_rows : (v : Verb) (rows : List Row) (id : Text) (long : Option Text) (index : Option ℕ) (w : Word) → arg_by_id (rules v) id ≡ Some (set_rule id long index) → has_row id rows ≡ false → settled_rows (rules v) (Some (id, w ∷ [])) rows ≡ rows ++ rows_for id w
pending_rows v rows id long index w by new = ap (λ o. used_by_id o (w ∷ []) rows) by ∙ used_first id long index w rows new

pending_quiet : (v : Verb) (rows : List Row) (id : Text) (long : Option Text) (index : Option ℕ) (w : Word) → arg_by_id (rules v) id ≡ Some (set_rule id long index) → has_row id rows ≡ false → IsQuiet v rows (Some (id, w ∷ []))
pending_quiet v rows id long index w by new = ap (λ o. option_map_or (λ a. use_fault false a (w ∷ []) rows) o []) by ∙ use_first id long index w rows new

pending_loud : (v : Verb) (rows : List Row) (id : Text) (long : Option Text) (index : Option ℕ) (w : Word) → arg_by_id (rules v) id ≡ Some (set_rule id long index) → has_row id rows ≡ true → IsQuiet v rows (Some (id, w ∷ [])) → ⊥
pending_loud v rows id long index w by old q = use_again id long index w rows old (sym (ap (λ o. option_map_or (λ a. use_fault false a (w ∷ []) rows) o []) by) ∙ q)

settled_first : (v : Verb) (rows : List Row) (u : Option Word) (w : Word) → Holds rows [] u → IsSettled v rows (Some (codes "task", w ∷ [])) (w ∷ []) u
settled_first v rows u w h = record {
  holds = subst (λ (x : List Row). Holds x (w ∷ []) u) (sym (pending_rows v rows (codes "task") None (Some 1) w (task_by_id v) h.task.row)) (holds_first rows u w h);
  quiet = pending_quiet v rows (codes "task") None (Some 1) w (task_by_id v) h.task.row;
}

settled_second : (v : Verb) (rows : List Row) (a : Word) (u : Option Word) (w : Word) → takes_two v ≡ true → Holds rows (a ∷ []) u → IsSettled v rows (Some (codes "jobs", w ∷ [])) (a ∷ w ∷ []) u
settled_second v rows a u w t h = record {
  holds = subst (λ (x : List Row). Holds x (a ∷ w ∷ []) u) (sym (pending_rows v rows (codes "jobs") None (Some 2) w (jobs_by_id v t) h.jobs.row)) (holds_second rows a u w h);
  quiet = pending_quiet v rows (codes "jobs") None (Some 2) w (jobs_by_id v t) h.jobs.row;
}

settled_value : (v : Verb) (rows : List Row) (ns : List Word) (w : Word) → takes_option v ≡ true → Holds rows ns None → IsSettled v rows (Some (codes "predictor", w ∷ [])) ns (Some w)
settled_value v rows ns w t h = record {
  holds = subst (λ (x : List Row). Holds x ns (Some w)) (sym (pending_rows v rows (codes "predictor") (Some (codes "predictor")) None w (predictor_by_id v t) h.value.row)) (holds_value rows ns w h);
  quiet = pending_quiet v rows (codes "predictor") (Some (codes "predictor")) None w (predictor_by_id v t) h.value.row;
}

-- ---- what is pending can't be used

abbrev pub AllText : List Word → Type 0
AllText [] = Unit {0}
AllText (w ∷ ws) = IsUtf8 w × AllText ws

doomed_behind : (v : Verb) (ns : List Word) (rows : List Row) (pending : Option (Text × List Text)) (waiting : Waiting) (ws : List Word) → (IsQuiet v rows pending → ⊥) → Bad v (behind_at rows pending (place_of ns) waiting) ws
doomed_behind v ns rows pending waiting [] bad e f = bad f
doomed_behind v ns rows pending waiting (w ∷ ws) bad e f = bad_now v (behind_at rows pending (place_of ns) waiting) w ws (loud_behind v rows pending ns waiting w bad) e f

doomed : (v : Verb) (ns : List Word) (rows : List Row) (pending : Option (Text × List Text)) (ws : List Word) → AllText ws → (IsQuiet v rows pending → ⊥) → Bad v (arguments_at rows pending (place_of ns)) ws
doomed v ns rows pending [] texts bad e f = bad f
doomed v ns rows pending (w ∷ ws) texts bad e f = elim (kinds w texts.0) [
  | inl is ↦ subst (λ x. Bad v (arguments_at rows pending (place_of ns)) (x ∷ ws)) (sym is) (bad_step v (arguments_at rows pending (place_of ns)) (behind_at rows pending (place_of ns) idle) (codes "--") ws (dashes_step v rows pending (place_of ns)) (doomed_behind v ns rows pending idle ws bad)) e f
  | inr other ↦ elim other [
    | inl n ↦ bad_now v (arguments_at rows pending (place_of ns)) w ws (loud_name v rows pending ns w bad n) e f
    | inr flag ↦ elim flag [
      | inl l ↦ bad_now v (arguments_at rows pending (place_of ns)) w ws (loud_long v rows pending (place_of ns) w bad l) e f
      | inr s ↦ bad_now v (arguments_at rows pending (place_of ns)) w ws (short_fails v rows pending (place_of ns) w s) e f
    ]
  ]
]

-- ---- a name

abbrev pub Sim : Verb → Place → List Word → Option Word → List Word → Type 0
Sim v Arguments ns u ws = (rows : List Row) (pending : Option (Text × List Text)) → IsSettled v rows pending ns u → Tells v (arguments_at rows pending (place_of ns)) ws (after_all v (put Arguments ns u) ws)
Sim v Value ns u ws = (rows : List Row) → takes_option v ≡ true → Holds rows ns u → Tells v (value_at rows (place_of ns)) ws (after_all v (put Value ns u) ws)
Sim v Behind ns u ws = (rows : List Row) (pending : Option (Text × List Text)) (waiting : Waiting) → IsSettled v rows pending ns u → Tells v (behind_at rows pending (place_of ns) waiting) ws (after_all v (put Behind ns u) ws)

name_given : (v : Verb) (ns : List Word) (u : Option Word) (w : Word) (ws : List Word) → IsName w → ((ms : List Word) → Sim v Arguments ms u ws) → Sim v Arguments ns u (w ∷ ws)
unfolding after
name_given v [] u w ws n later rows pending st =
    go_on v (arguments_at rows pending 1) (arguments_at (settled_rows (rules v) pending rows) (Some (codes "task", w ∷ [])) 2) w ws (put Arguments [] u) (put Arguments (w ∷ []) u) (after_name v (put Arguments [] u) w n.named)
    (name_step v rows pending 1 w (codes "task") (Some 1) (first_rule v) st.quiet n) (later (w ∷ []) _ _ (settled_first v (settled_rows (rules v) pending rows) u w st.holds))
name_given v (a ∷ []) u w ws n later rows pending st = by_two (takes_two v) refl
  where
    one : (t : Bool) → takes_two v ≡ t → after v (put Arguments (a ∷ []) u) w ≡ option_map (λ ms. put Arguments ms u) (one_more t (a ∷ []) w)
    one t e = after_name v (put Arguments (a ∷ []) u) w n.named ∙ ap (λ x. option_map (λ ms. put Arguments ms u) (one_more x (a ∷ []) w)) e

    rule : (t : Bool) → takes_two v ≡ t → arg_by_index (rules v) 2 ≡ cond t (Some (set_rule (codes "jobs") None (Some 2))) None
    rule t e = second_rule v ∙ ap (λ x. cond x (Some (set_rule (codes "jobs") None (Some 2))) None) e

    by_two : (t : Bool) → takes_two v ≡ t → Tells v (arguments_at rows pending 2) (w ∷ ws) (after_all v (put Arguments (a ∷ []) u) (w ∷ ws))
    by_two true e = go_on v (arguments_at rows pending 2) (arguments_at (settled_rows (rules v) pending rows) (Some (codes "jobs", w ∷ [])) 3) w ws (put Arguments (a ∷ []) u) (put Arguments (a ∷ w ∷ []) u) (one true e)
        (name_step v rows pending 2 w (codes "jobs") (Some 2) (rule true e) st.quiet n) (later (a ∷ w ∷ []) _ _ (settled_second v (settled_rows (rules v) pending rows) a u w e st.holds))
    by_two false e = stop_here v (arguments_at rows pending 2) w ws (put Arguments (a ∷ []) u) (one false e) (bad_now v (arguments_at rows pending 2) w ws (stray_name v rows pending 2 w (rule false e) n))
name_given v (a ∷ b ∷ ns) u w ws n later rows pending st =
    stop_here v (arguments_at rows pending 3) w ws (put Arguments (a ∷ b ∷ ns) u) (after_name v (put Arguments (a ∷ b ∷ ns) u) w n.named) (bad_now v (arguments_at rows pending 3) w ws (stray_name v rows pending 3 w (third_rule v) n))

behind_given : (v : Verb) (ns : List Word) (u : Option Word) (w : Word) (ws : List Word) → ((ms : List Word) → Sim v Behind ms u ws) → Sim v Behind ns u (w ∷ ws)
unfolding after
behind_given v [] u w ws later rows pending waiting st =
    go_on v (behind_at rows pending 1 waiting) (behind_at (settled_rows (rules v) pending rows) (Some (codes "task", w ∷ [])) 2 idle) w ws (put Behind [] u) (put Behind (w ∷ []) u) refl
    (behind_step v rows pending 1 waiting w (codes "task") (Some 1) (first_rule v) st.quiet) (later (w ∷ []) _ _ idle (settled_first v (settled_rows (rules v) pending rows) u w st.holds))
behind_given v (a ∷ []) u w ws later rows pending waiting st = by_two (takes_two v) refl
  where
    one : (t : Bool) → takes_two v ≡ t → after v (put Behind (a ∷ []) u) w ≡ option_map (λ ms. put Behind ms u) (one_more t (a ∷ []) w)
    one t e = ap (λ x. option_map (λ ms. put Behind ms u) (one_more x (a ∷ []) w)) e

    rule : (t : Bool) → takes_two v ≡ t → arg_by_index (rules v) 2 ≡ cond t (Some (set_rule (codes "jobs") None (Some 2))) None
    rule t e = second_rule v ∙ ap (λ x. cond x (Some (set_rule (codes "jobs") None (Some 2))) None) e

    by_two : (t : Bool) → takes_two v ≡ t → Tells v (behind_at rows pending 2 waiting) (w ∷ ws) (after_all v (put Behind (a ∷ []) u) (w ∷ ws))
    by_two true e = go_on v (behind_at rows pending 2 waiting) (behind_at (settled_rows (rules v) pending rows) (Some (codes "jobs", w ∷ [])) 3 idle) w ws (put Behind (a ∷ []) u) (put Behind (a ∷ w ∷ []) u) (one true e)
        (behind_step v rows pending 2 waiting w (codes "jobs") (Some 2) (rule true e) st.quiet) (later (a ∷ w ∷ []) _ _ idle (settled_second v (settled_rows (rules v) pending rows) a u w e st.holds))
    by_two false e = stop_here v (behind_at rows pending 2 waiting) w ws (put Behind (a ∷ []) u) (one false e) (bad_now v (behind_at rows pending 2 waiting) w ws (stray_behind v rows pending 2 waiting w (rule false e)))
behind_given v (a ∷ b ∷ ns) u w ws later rows pending waiting st =
    stop_here v (behind_at rows pending 3 waiting) w ws (put Behind (a ∷ b ∷ ns) u) refl (bad_now v (behind_at rows pending 3 waiting) w ws (stray_behind v rows pending 3 waiting w (third_rule v)))

-- ---- the option

option_given : (v : Verb) (ns : List Word) (u : Option Word) (ws : List Word) → Sim v Value ns u ws → Sim v Arguments ns u (codes "--predictor" ∷ ws)
unfolding after
option_given v ns u ws later rows pending st = by_option (takes_option v) refl
  where
    one : (t : Bool) → takes_option v ≡ t → after v (put Arguments ns u) (codes "--predictor") ≡ cond t (Some (put Value ns u)) None
    one t e = ap (λ x. cond x (Some (put Value ns u)) None) e

    by_option : (t : Bool) → takes_option v ≡ t → Tells v (arguments_at rows pending (place_of ns)) (codes "--predictor" ∷ ws) (after_all v (put Arguments ns u) (codes "--predictor" ∷ ws))
    by_option true e = go_on v (arguments_at rows pending (place_of ns)) (value_at (settled_rows (rules v) pending rows) (place_of ns)) (codes "--predictor") ws (put Arguments ns u) (put Value ns u) (one true e)
        (option_step v rows pending (place_of ns) e st.quiet) (later (settled_rows (rules v) pending rows) e st.holds)
    by_option false e = stop_here v (arguments_at rows pending (place_of ns)) (codes "--predictor") ws (put Arguments ns u) (one false e) (bad_now v (arguments_at rows pending (place_of ns)) (codes "--predictor") ws (option_refused v rows pending (place_of ns) e))

joined_given : (v : Verb) (ns : List Word) (u : Option Word) (x : Word) (ws : List Word) → Sim v Arguments ns (Some x) ws → Sim v Arguments ns u ((codes "--predictor=" ++ x) ∷ ws)
unfolding after
joined_given v ns u x ws later rows pending st = by_option (takes_option v) refl u st
  where
    one : (t : Bool) (y : Option Word) → takes_option v ≡ t → after v (put Arguments ns y) (codes "--predictor=" ++ x) ≡ cond t (only_once (put Arguments ns y) x y) None
    one t y e = ap (λ b. cond b (only_once (put Arguments ns y) x y) None) e

    by_option : (t : Bool) → takes_option v ≡ t → (y : Option Word) → IsSettled v rows pending ns y → Tells v (arguments_at rows pending (place_of ns)) ((codes "--predictor=" ++ x) ∷ ws) (after_all v (put Arguments ns y) ((codes "--predictor=" ++ x) ∷ ws))
    by_option true e None s = go_on v (arguments_at rows pending (place_of ns)) (arguments_at (settled_rows (rules v) pending rows ++ rows_for (codes "predictor") x) None (place_of ns)) (codes "--predictor=" ++ x) ws (put Arguments ns None) (put Arguments ns (Some x)) (one true None e)
        (joined_step v rows pending (place_of ns) x e s.quiet s.holds.value.row) (later _ None (record { holds = holds_value (settled_rows (rules v) pending rows) ns x s.holds; quiet = refl }))
    by_option true e (Some y) s = stop_here v (arguments_at rows pending (place_of ns)) (codes "--predictor=" ++ x) ws (put Arguments ns (Some y)) (one true (Some y) e) (bad_now v (arguments_at rows pending (place_of ns)) (codes "--predictor=" ++ x) ws (joined_again v rows pending (place_of ns) x e s.holds.value.row))
    by_option false e y s = stop_here v (arguments_at rows pending (place_of ns)) (codes "--predictor=" ++ x) ws (put Arguments ns y) (one false y e) (bad_now v (arguments_at rows pending (place_of ns)) (codes "--predictor=" ++ x) ws (joined_refused v rows pending (place_of ns) x e))

-- a word that begins with `-` and is none of these
after_other : (v : Verb) (ns : List Word) (u : Option Word) (w : Word) → bytes_eq w (codes "--") ≡ false → bytes_eq w (codes "--predictor") ≡ false → is_joined w ≡ false → is_name w ≡ false → after v (put Arguments ns u) w ≡ None
unfolding after
after_other v ns u w d o j n = take_right _ _ _ d ∙ take_right _ _ _ o ∙ ap (λ t. joined_or_name v (put Arguments ns u) w (cond t (Some (drop 12 w)) None)) j ∙ take_right _ _ _ n

long_given : (v : Verb) (ns : List Word) (u : Option Word) (w : Word) (ws : List Word) → IsLong w → Sim v Value ns u ws → ((x : Word) → Sim v Arguments ns (Some x) ws) → Sim v Arguments ns u (w ∷ ws)
long_given v ns u w ws l value joined rows pending st = by_option (bytes_eq w (codes "--predictor")) refl
  where
    by_joined : bytes_eq w (codes "--predictor") ≡ false → (t : Bool) → is_joined w ≡ t → Tells v (arguments_at rows pending (place_of ns)) (w ∷ ws) (after_all v (put Arguments ns u) (w ∷ ws))
    by_joined o true e = subst (λ x. Tells v (arguments_at rows pending (place_of ns)) (x ∷ ws) (after_all v (put Arguments ns u) (x ∷ ws))) (sym (joined_word w e)) (joined_given v ns u (drop 12 w) ws (joined (drop 12 w)) rows pending st)
    by_joined o false e = stop_here v (arguments_at rows pending (place_of ns)) w ws (put Arguments ns u) (after_other v ns u w l.dashes o e l.named)
        (bad_now v (arguments_at rows pending (place_of ns)) w ws (long_fails v rows pending (place_of ns) w l (other_name l.rest (subst (λ x. bytes_eq x (codes "--predictor") ≡ false) l.is o) (subst (λ x. is_joined x ≡ false) l.is e))))

    by_option : (t : Bool) → bytes_eq w (codes "--predictor") ≡ t → Tells v (arguments_at rows pending (place_of ns)) (w ∷ ws) (after_all v (put Arguments ns u) (w ∷ ws))
    by_option true e = subst (λ x. Tells v (arguments_at rows pending (place_of ns)) (x ∷ ws) (after_all v (put Arguments ns u) (x ∷ ws))) (sym (same_word w (codes "--predictor") e)) (option_given v ns u ws value rows pending st)
    by_option false e = by_joined e (is_joined w) refl

-- ---- the option's value

value_given : (v : Verb) (ns : List Word) (u : Option Word) (w : Word) (ws : List Word) → AllText ws → IsName w → ((x : Word) → Sim v Arguments ns (Some x) ws) → Sim v Value ns u (w ∷ ws)
unfolding after
value_given v ns u w ws texts n later rows takes h = by_value u h
  where
    one : (y : Option Word) → after v (put Value ns y) w ≡ only_once (put Value ns y) w y
    one y = take_left _ _ _ n.named ∙ take_left _ _ _ takes

    by_value : (y : Option Word) → Holds rows ns y → Tells v (value_at rows (place_of ns)) (w ∷ ws) (after_all v (put Value ns y) (w ∷ ws))
    by_value None g = go_on v (value_at rows (place_of ns)) (arguments_at rows (Some (codes "predictor", w ∷ [])) (place_of ns)) w ws (put Value ns None) (put Arguments ns (Some w)) (one None)
        (value_step v rows (place_of ns) w takes n) (later w rows (Some (codes "predictor", w ∷ [])) (settled_value v rows ns w takes g))
    by_value (Some y) g = stop_here v (value_at rows (place_of ns)) w ws (put Value ns (Some y)) (one (Some y))
        (bad_step v (value_at rows (place_of ns)) (arguments_at rows (Some (codes "predictor", w ∷ [])) (place_of ns)) w ws (value_step v rows (place_of ns) w takes n)
        (doomed v ns rows (Some (codes "predictor", w ∷ [])) ws texts (pending_loud v rows (codes "predictor") (Some (codes "predictor")) None w (predictor_by_id v takes) g.value.row)))

no_value_here : (v : Verb) (ns : List Word) (u : Option Word) (w : Word) → is_name w ≡ false → after v (put Value ns u) w ≡ None
unfolding after
no_value_here v ns u w e = take_right _ _ _ e

-- ---- all words

pub walk_tells : (v : Verb) (ws : List Word) → AllText ws → (p : Place) (ns : List Word) (u : Option Word) → Sim v p ns u ws
unfolding after_all walk_fault
walk_tells v [] texts Arguments ns u = λ rows pending st. record { walks = refl; settles = st.quiet; holds = st.holds }
walk_tells v [] texts Value ns u = λ rows takes h e f. no_value_yet v rows takes f
walk_tells v [] texts Behind ns u = λ rows pending waiting st. record { walks = refl; settles = st.quiet; holds = st.holds }
walk_tells v (w ∷ ws) texts Behind ns u = behind_given v ns u w ws (λ ms. walk_tells v ws texts.1 Behind ms u)
walk_tells v (w ∷ ws) texts Arguments ns u = elim (kinds w texts.0) [
  | inl is ↦ λ rows pending st. subst (λ x. Tells v (arguments_at rows pending (place_of ns)) (x ∷ ws) (after_all v (put Arguments ns u) (x ∷ ws))) (sym is)
      (go_on v (arguments_at rows pending (place_of ns)) (behind_at rows pending (place_of ns) idle) (codes "--") ws (put Arguments ns u) (put Behind ns u) (unfold after in refl) (dashes_step v rows pending (place_of ns)) (walk_tells v ws texts.1 Behind ns u rows pending idle st))
  | inr other ↦ elim other [
    | inl n ↦ name_given v ns u w ws n (λ ms. walk_tells v ws texts.1 Arguments ms u)
    | inr flag ↦ elim flag [
      | inl l ↦ long_given v ns u w ws l (walk_tells v ws texts.1 Value ns u) (λ x. walk_tells v ws texts.1 Arguments ns (Some x))
      | inr s ↦ λ rows pending st. stop_here v (arguments_at rows pending (place_of ns)) w ws (put Arguments ns u) (after_other v ns u w s.dashes s.option s.joined s.named) (bad_now v (arguments_at rows pending (place_of ns)) w ws (short_fails v rows pending (place_of ns) w s))
    ]
  ]
]
walk_tells v (w ∷ ws) texts Value ns u = elim (kinds w texts.0) [
  | inl is ↦ λ rows takes h. subst (λ x. Tells v (value_at rows (place_of ns)) (x ∷ ws) (after_all v (put Value ns u) (x ∷ ws))) (sym is)
      (stop_here v (value_at rows (place_of ns)) (codes "--") ws (put Value ns u) (no_value_here v ns u (codes "--") refl)
      (bad_step v (value_at rows (place_of ns)) _ (codes "--") ws (value_dashes v rows (place_of ns)) (doomed_behind v ns rows _ _ ws (no_value_yet v rows takes))))
  | inr other ↦ elim other [
    | inl n ↦ value_given v ns u w ws texts.1 n (λ x. walk_tells v ws texts.1 Arguments ns (Some x))
    | inr flag ↦ elim flag [
      | inl l ↦ λ rows takes h. stop_here v (value_at rows (place_of ns)) w ws (put Value ns u) (no_value_here v ns u w l.named) (bad_now v (value_at rows (place_of ns)) w ws (value_long_fails v rows (place_of ns) w takes l))
      | inr s ↦ λ rows takes h. stop_here v (value_at rows (place_of ns)) w ws (put Value ns u) (no_value_here v ns u w s.named) (bad_now v (value_at rows (place_of ns)) w ws (value_short_fails v rows (place_of ns) w s))
    ]
  ]
]
