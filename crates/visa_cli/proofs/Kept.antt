-- The clauses of the top call, from what the call did.
use Rattle.std.proofs.Common.{◌≡◌, ◌∙◌, refl, sym, ap, subst, ℕ, suc, ◌<◌, ◌≤◌, true, false, List, [], ◌∷◌, length, Result, Ok, Err, append-nil, arith, inl, inr}
use Rattle.std.specs.Prelude.{◌⊎◌, ◌≢◌, ⊤, Option, Some, None, IfSome}
use Rattle.std.specs.List.{AllByRecursion, concat}
use Rattle.visa_io.specs.Faults.{Rose, risen}
use Rattle.visa_io.specs.Puts.{PutAll, Taken, appended}
use Rattle.visa_io.specs.Reads.{Contents, IsAnswerOf, Seen}
use Rattle.visa_io.proofs.PutLaws.{some_prefix}
use Rattle.visa_io.specs.declared.files.FileFault.{FileFault}
use Rattle.visa_io.specs.declared.files.FileFault.TheVariants as file_fault
use Rattle.command_line.specs.Commands.{Asked, IsCommand}
use Rattle.visa_cli.specs.Clauses.{Does, EndsByOrMemory, Appended, KeepsProduct, KeepsMemoryPrefix, LastReadWas, IsReadFault, IsPutText, IsWriteFault, KeepsFaultCauses, KeepsUntold, IsComplete, has_fixed_line}
use Rattle.visa_cli.specs.Product.{AnswersFound, Finds, Found, HasNoCommand, IsAsked, IsOutOfMemory, IsProduct, IsUsage, WordsAsk, told, without}
use Rattle.visa_cli.specs.Reads.{FileRead, WereRead, longest_file}
use Rattle.visa_cli.specs.Stages.{file_status, read_of}
use Rattle.visa_cli.specs.Status.{line_of}
use Rattle.visa_cli.specs.declared.status.Role.{Role}
use Rattle.visa_cli.specs.declared.status.Role.TheVariants.{Task, Image as ImageRole, Jobs}
use Rattle.visa_cli.specs.declared.status.Status.{Status}
use Rattle.visa_cli.specs.declared.status.Status.TheVariants.{Done, Usage, ReadFault, TaskText, ImageRefused, Refused, JobsText, WriteFault, Memory, Long}
use Rattle.visa_cli.proofs.OneAnswer.{one_product}
use Rattle.visa_cli.proofs.Proper.{AreGiven, AsksDone, GaveBytes, NamedIn, StopsReading, is_of_stage, rank, shape_of}

-- reads that gave bytes: the files tell what they told, no fault was counted, and what they tell was found

keeps_contents : (f0 f1 : Seen) (reads : List FileRead) → WereRead f0 reads f1 → f1.contents ≡ f0.contents
keeps_contents f0 f1 [] same = ap (λ (f : Seen). f.contents) same
keeps_contents f0 f1 (r ∷ older) (mid, were, was) = was.contents ∙ keeps_contents f0 mid older were

no_fault_given : (Named : Role → List ℕ → Type 0) (lo hi : ℕ) (f0 f1 : Seen) (reads : List FileRead) → AreGiven Named lo hi reads → WereRead f0 reads f1 → f1.faults ≡ f0.faults
no_fault_given Named lo hi f0 f1 [] given same = ap (λ (f : Seen). f.faults) same
no_fault_given Named lo hi f0 f1 (r ∷ older) given (mid, were, was) =
    by r.answer given.0 was.faults ∙ no_fault_given Named lo (rank r.role) f0 mid older given.3 were
  where
    by : (answer : Result (List ℕ) FileFault) → GaveBytes answer → f1.faults ≡ Rattle.visa_io.specs.Reads.faults_after answer mid.faults → f1.faults ≡ mid.faults
    by (Ok bytes) gave is = is
    by (Err fault) none is = absurd none

pub found_given : (Named : Role → List ℕ → Type 0) (lo hi : ℕ) (found : Found) (contents : Contents) (f0 f1 : Seen) (reads : List FileRead)
    → ((role : Role) → suc (rank role) ≤ hi → found role ≡ contents) → AreGiven Named lo hi reads → WereRead f0 reads f1 → f0.contents ≡ Some contents
    → AllByRecursion (Finds found) reads
found_given Named lo hi found contents f0 f1 [] same given were tells = tt
found_given Named lo hi found contents f0 f1 (r ∷ older) same given (mid, were, was) tells = (
  by r.answer given.0 (subst Tells (keeps_contents f0 mid older were ∙ tells) was.told) was.fits,
  found_given Named lo (rank r.role) found contents f0 mid older (λ role below. same role (omega (arith, below, given.2))) given.3 were tells,
)
  where
    Tells : Option Contents → Type 0
    Tells o = IfSome o (λ c. IsAnswerOf c r.name longest_file r.answer)

    by : (answer : Result (List ℕ) FileFault) → GaveBytes answer → IsAnswerOf contents r.name longest_file answer
        → Rattle.std.specs.Prelude.IfOk answer (λ bytes. length bytes ≤ longest_file) → AnswersFound found r.role r.name answer
    by (Ok bytes) gave is fits = (ap (λ (c : Contents). c r.name) (same r.role given.2) ∙ is, fits)
    by (Err fault) none is fits = absurd none

-- a role that is read before another is found as it is told
without_other : (contents : Contents) (away role : Role) → suc (rank role) ≤ rank away → without away contents role ≡ contents
without_other contents Task Task below = absurd (omega arith)
without_other contents Task ImageRole below = refl
without_other contents Task Jobs below = refl
without_other contents ImageRole Task below = refl
without_other contents ImageRole ImageRole below = absurd (omega arith)
without_other contents ImageRole Jobs below = refl
without_other contents Jobs Task below = refl
without_other contents Jobs ImageRole below = refl
without_other contents Jobs Jobs below = absurd (omega arith)

without_it : (contents : Contents) (away : Role) (name : List ℕ) → without away contents away name ≡ None
without_it contents Task name = refl
without_it contents ImageRole name = refl
without_it contents Jobs name = refl

memory_or : (s : Status) → (s ≡ Memory) ⊎ (s ≢ Memory)
memory_or Done = inr (λ e. cc)
memory_or Usage = inr (λ e. cc)
memory_or (ReadFault role) = inr (λ e. cc)
memory_or (TaskText at kind) = inr (λ e. cc)
memory_or (ImageRefused kind) = inr (λ e. cc)
memory_or (Refused refusal) = inr (λ e. cc)
memory_or (JobsText at) = inr (λ e. cc)
memory_or WriteFault = inr (λ e. cc)
memory_or Memory = inl refl
memory_or (Long role) = inr (λ e. cc)

-- what a call asked for where no read failed
record Quiet (words : List (List ℕ)) (f0 f1 : Seen) (asked : Status) (lines : List (List ℕ)) : Type 0 where
  pub faults : f1.faults ≡ f0.faults
  pub not_read_fault : (role : Role) → asked ≢ ReadFault role
  pub not_write_fault : asked ≢ WriteFault
  pub product : (contents : Contents) → f0.contents ≡ Some contents → asked ≢ Memory → IsProduct words (told contents) asked (concat lines)
  pub memory_lines : asked ≡ Memory → lines ≡ line_of Memory ∷ []
  pub usage : asked ≡ Usage → HasNoCommand words
  pub no_command : HasNoCommand words → (f1 ≡ f0) × ((asked ≡ Usage) ⊎ (asked ≡ Memory))
  pub long : (role : Role) → asked ≡ Long role → (longest_file < f1.last.taken) × LastReadWas words role f1

-- and where one did
record Failed (words : List (List ℕ)) (f0 f1 : Seen) (asked : Status) (lines : List (List ℕ)) : Type 0 where
  pub role : Role
  pub asked_is : asked ≡ ReadFault role
  pub lines_are : lines ≡ line_of (ReadFault role) ∷ []
  pub faults : f1.faults ≡ risen f0.faults
  pub failed : f1.last.failed ≡ true
  pub last : LastReadWas words role f1
  pub has_command : ¬ (HasNoCommand words)
  pub product : (contents : Contents) → f0.contents ≡ Some contents → IsProduct words (without role contents) (ReadFault role) (line_of (ReadFault role))

quiet_usage : (words : List (List ℕ)) (f0 f1 : Seen) (reads : List FileRead) (asked : Status) (lines : List (List ℕ)) → IsUsage words reads asked lines → WereRead f0 reads f1
    → Quiet words f0 f1 asked lines
quiet_usage words f0 f1 reads asked lines usage were =
    let Were : List FileRead → Type 0 = λ rs. WereRead f0 rs f1 in
    let unread : f1 ≡ f0 = subst Were usage.unread were in
    record {
      faults = ap (λ (f : Seen). f.faults) unread;
      not_read_fault = λ role e. let no = sym usage.status_is ∙ e in cc;
      not_write_fault = λ e. let no = sym usage.status_is ∙ e in cc;
      product = λ contents tells memory. record {
        reads = reads;
        lines = lines;
        ask = inl usage;
        finds = let All : List FileRead → Type 0 = λ rs. AllByRecursion (Finds (told contents)) rs in subst All (sym usage.unread) tt;
        memory = memory;
        text_is = refl;
      };
      memory_lines = λ e. let no = sym usage.status_is ∙ e in cc;
      usage = λ e. usage.none;
      no_command = λ none. (unread, inl usage.status_is);
      long = λ role e. let no = sym usage.status_is ∙ e in cc;
    }

quiet_memory : (words : List (List ℕ)) (f0 f1 : Seen) (reads : List FileRead) (asked : Status) (lines : List (List ℕ)) → IsOutOfMemory reads asked lines → WereRead f0 reads f1
    → Quiet words f0 f1 asked lines
quiet_memory words f0 f1 reads asked lines out were =
    let Were : List FileRead → Type 0 = λ rs. WereRead f0 rs f1 in
    let unread : f1 ≡ f0 = subst Were out.unread were in
    record {
      faults = ap (λ (f : Seen). f.faults) unread;
      not_read_fault = λ role e. let no = sym out.status_is ∙ e in cc;
      not_write_fault = λ e. let no = sym out.status_is ∙ e in cc;
      product = λ contents tells memory. absurd (memory out.status_is);
      memory_lines = λ e. out.lines_are;
      usage = λ e. let no = sym out.status_is ∙ e in cc;
      no_command = λ none. (unread, inr out.status_is);
      long = λ role e. let no = sym out.status_is ∙ e in cc;
    }

done_quiet : (words : List (List ℕ)) (f0 f1 : Seen) (reads : List FileRead) (asked : Status) (lines : List (List ℕ)) (is : IsAsked words reads asked lines) → WereRead f0 reads f1
    → AsksDone is.asked reads asked → Quiet words f0 f1 asked lines
done_quiet words f0 f1 reads asked lines is were done = record {
  faults = no_fault_given (NamedIn is.asked) 0 3 f0 f1 reads done.given were;
  not_read_fault = λ role e. let no = sym done.done ∙ e in cc;
  not_write_fault = λ e. let no = sym done.done ∙ e in cc;
  product = λ contents tells memory. record {
    reads = reads;
    lines = lines;
    ask = inr (inr is);
    finds = found_given (NamedIn is.asked) 0 3 (told contents) contents f0 f1 reads (λ role below. refl) done.given were tells;
    memory = memory;
    text_is = refl;
  };
  memory_lines = λ e. let no = sym done.done ∙ e in cc;
  usage = λ e. let no = sym done.done ∙ e in cc;
  no_command = λ none. absurd (none is.asked is.command);
  long = λ role e. let no = sym done.done ∙ e in cc;
}

stage_status : (s t : Status) → is_of_stage s ≡ true → s ≡ t → is_of_stage t ≡ true
stage_status s t of e = ap is_of_stage (sym e) ∙ of

line_quiet : (words : List (List ℕ)) (f0 f1 : Seen) (reads : List FileRead) (asked : Status) (lines : List (List ℕ)) (is : IsAsked words reads asked lines) → WereRead f0 reads f1
    → AreGiven (NamedIn is.asked) 0 3 reads → is_of_stage asked ≡ true → lines ≡ line_of asked ∷ [] → Quiet words f0 f1 asked lines
line_quiet words f0 f1 reads asked lines is were given of_stage lines_are = record {
  faults = no_fault_given (NamedIn is.asked) 0 3 f0 f1 reads given were;
  not_read_fault = λ role e. let no = stage_status asked (ReadFault role) of_stage e in cc;
  not_write_fault = λ e. let no = stage_status asked WriteFault of_stage e in cc;
  product = λ contents tells memory. record {
    reads = reads;
    lines = lines;
    ask = inr (inr is);
    finds = found_given (NamedIn is.asked) 0 3 (told contents) contents f0 f1 reads (λ role below. refl) given were tells;
    memory = memory;
    text_is = refl;
  };
  memory_lines = λ e. lines_are ∙ ap (λ s. line_of s ∷ []) e;
  usage = λ e. let no = stage_status asked Usage of_stage e in cc;
  no_command = λ none. absurd (none is.asked is.command);
  long = λ role e. let no = stage_status asked (Long role) of_stage e in cc;
}

same_long : (a b : Role) → Long a ≡ Long b → a ≡ b
same_long a b e = cc

same_read : (a b : Role) → ReadFault a ≡ ReadFault b → a ≡ b
same_read a b e = cc

-- the last read gave no bytes
last_was : (words : List (List ℕ)) (asked : Asked) (role : Role) (name : List ℕ) (f1 : Seen) → IsCommand words asked → NamedIn asked role name → f1.last.name ≡ Some name
    → LastReadWas words role f1
last_was words asked role name f1 has named last = record { asked = asked; command = has; name = name; last_is = last; named = named }

reading_ends : (words : List (List ℕ)) (f0 f1 : Seen) (reads : List FileRead) (asked : Status) (lines : List (List ℕ)) (is : IsAsked words reads asked lines)
    (stops : StopsReading (NamedIn is.asked) 0 3 reads asked) → WereRead f0 reads f1 → lines ≡ line_of asked ∷ [] → Quiet words f0 f1 asked lines ⊎ Failed words f0 f1 asked lines
reading_ends words f0 f1 reads asked lines is stops were lines_are =
    let Were : List FileRead → Type 0 = λ rs. WereRead f0 rs f1 in
    by stops.fault refl (subst Were stops.reads_are were)
  where
    Asked_at : FileFault → Type 0
    Asked_at fault = IsAsked words (read_of stops.role stops.name (Err fault) ∷ stops.older) (file_status stops.role fault) (line_of (file_status stops.role fault) ∷ [])

    asked_at : (fault : FileFault) → stops.fault ≡ fault → Asked_at fault
    asked_at fault same =
        let of_reads : List FileRead → Type 0 = λ rs. IsAsked words rs asked lines in
        let of_lines : List (List ℕ) → Type 0 = λ ls. IsAsked words (read_of stops.role stops.name (Err stops.fault) ∷ stops.older) asked ls in
        let of_status : Status → Type 0 = λ s. IsAsked words (read_of stops.role stops.name (Err stops.fault) ∷ stops.older) s (line_of s ∷ []) in
        subst Asked_at same (subst of_status stops.status_is (subst of_lines lines_are (subst of_reads stops.reads_are is)))

    older_found : (contents : Contents) (found : Found) (mid : Seen) → ((role : Role) → suc (rank role) ≤ rank stops.role → found role ≡ contents) → WereRead f0 stops.older mid
        → f0.contents ≡ Some contents → AllByRecursion (Finds found) stops.older
    older_found contents found mid same older tells = found_given (NamedIn is.asked) 0 (rank stops.role) found contents f0 mid stops.older same stops.given older tells

    by : (fault : FileFault) → stops.fault ≡ fault → WereRead f0 (read_of stops.role stops.name (Err fault) ∷ stops.older) f1 → Quiet words f0 f1 asked lines ⊎ Failed words f0 f1 asked lines
    by file_fault.Failed same (mid, older, was) =
        let asked_is : asked ≡ ReadFault stops.role = stops.status_is ∙ ap (file_status stops.role) same in
        inr (record {
          role = stops.role;
          asked_is = asked_is;
          lines_are = lines_are ∙ ap (λ s. line_of s ∷ []) asked_is;
          faults = was.faults ∙ ap risen (no_fault_given (NamedIn is.asked) 0 (rank stops.role) f0 mid stops.older stops.given older);
          failed = was.last_failed;
          last = last_was words is.asked stops.role stops.name f1 is.command stops.named was.last_name_is;
          has_command = λ none. none is.asked is.command;
          product = λ contents tells. record {
            reads = read_of stops.role stops.name (Err file_fault.Failed) ∷ stops.older;
            lines = line_of (ReadFault stops.role) ∷ [];
            ask = inr (inr (asked_at file_fault.Failed same));
            finds = (without_it contents stops.role stops.name, older_found contents (without stops.role contents) mid (λ role below. without_other contents stops.role role below) older tells);
            memory = λ e. cc;
            text_is = sym (append-nil (line_of (ReadFault stops.role)));
          };
        })
    by file_fault.Long same (mid, older, was) =
        let asked_is : asked ≡ Long stops.role = stops.status_is ∙ ap (file_status stops.role) same in
        inl (record {
          faults = was.faults ∙ no_fault_given (NamedIn is.asked) 0 (rank stops.role) f0 mid stops.older stops.given older;
          not_read_fault = λ role e. let no = sym asked_is ∙ e in cc;
          not_write_fault = λ e. let no = sym asked_is ∙ e in cc;
          product = λ contents tells memory. record {
            reads = reads;
            lines = lines;
            ask = inr (inr is);
            finds =
                let All : List FileRead → Type 0 = λ rs. AllByRecursion (Finds (told contents)) rs in
                let Tells : Option Contents → Type 0 = λ o. IfSome o (λ c. IsAnswerOf c stops.name longest_file (Err file_fault.Long)) in
                let Faulty : FileFault → Type 0 = λ fault. AllByRecursion (Finds (told contents)) (read_of stops.role stops.name (Err fault) ∷ stops.older) in
                let long = subst Tells (keeps_contents f0 mid stops.older older ∙ tells) was.told in
                subst All (sym stops.reads_are) (subst Faulty (sym same) ((long.0, long.1, long.2), older_found contents (told contents) mid (λ role below. refl) older tells));
            memory = memory;
            text_is = refl;
          };
          memory_lines = λ e. let no = sym asked_is ∙ e in cc;
          usage = λ e. let no = sym asked_is ∙ e in cc;
          no_command = λ none. absurd (none is.asked is.command);
          long = λ role e.
              let one : stops.role ≡ role = same_long stops.role role (sym asked_is ∙ e) in
              let At : Role → Type 0 = λ r. (longest_file < f1.last.taken) × LastReadWas words r f1 in
              subst At one (was.last_took, last_was words is.asked stops.role stops.name f1 is.command stops.named was.last_name_is);
        })
    by file_fault.Memory same (mid, older, was) =
        let asked_is : asked ≡ Memory = stops.status_is ∙ ap (file_status stops.role) same in
        inl (record {
          faults = was.faults ∙ no_fault_given (NamedIn is.asked) 0 (rank stops.role) f0 mid stops.older stops.given older;
          not_read_fault = λ role e. let no = sym asked_is ∙ e in cc;
          not_write_fault = λ e. let no = sym asked_is ∙ e in cc;
          product = λ contents tells memory. absurd (memory asked_is);
          memory_lines = λ e. lines_are ∙ ap (λ s. line_of s ∷ []) e;
          usage = λ e. let no = sym asked_is ∙ e in cc;
          no_command = λ none. absurd (none is.asked is.command);
          long = λ role e. let no = sym asked_is ∙ e in cc;
        })

summary : (words : List (List ℕ)) (f0 f1 : Seen) (reads : List FileRead) (asked : Status) (lines : List (List ℕ)) → WordsAsk words reads asked lines → WereRead f0 reads f1
    → Quiet words f0 f1 asked lines ⊎ Failed words f0 f1 asked lines
summary words f0 f1 reads asked lines (inl usage) were = inl (quiet_usage words f0 f1 reads asked lines usage were)
summary words f0 f1 reads asked lines (inr (inl out)) were = inl (quiet_memory words f0 f1 reads asked lines out were)
summary words f0 f1 reads asked lines (inr (inr is)) were = elim (shape_of is.asked reads asked lines is.asks) [
  | inl done ↦ inl (done_quiet words f0 f1 reads asked lines is were done)
  | inr line ↦ elim line.stopped [
    | inl after ↦ inl (line_quiet words f0 f1 reads asked lines is were after.given after.of_stage line.lines_are)
    | inr reading ↦ reading_ends words f0 f1 reads asked lines is reading were line.lines_are
  ]
]

-- the clauses

rises : (a b : ℕ) → b ≡ risen a → Rose a b
rises a b e = omega (arith, e)

one_line : (s : Status) → concat (line_of s ∷ []) ≡ line_of s
one_line s = append-nil (line_of s)

appends_line : (s0 s1 : Taken) (s : Status) → PutAll s0 s1 (line_of s ∷ []) → Appended s0 s1 (line_of s)
appends_line s0 s1 s puts = puts.appends ∙ ap (appended s0.bytes) (one_line s)

pub keeps_product : (words : List (List ℕ)) (f0 f1 : Seen) (s0 s1 : Taken) (status : Status) → Does (WordsAsk words) f0 f1 s0 s1 status → KeepsProduct words f0 f1 s0 s1 status
unfolding KeepsProduct
keeps_product words f0 f1 s0 s1 status d contents tells no_fault = by (summary words f0 f1 d.reads d.asked d.lines d.asks d.were_read) d.ends
  where
    Kept : Status → Type 0
    Kept s = (s ≡ Memory) ⊎ ((text : List ℕ) × IsProduct words (told contents) s text × Appended s0 s1 text)

    by : Quiet words f0 f1 d.asked d.lines ⊎ Failed words f0 f1 d.asked d.lines → EndsByOrMemory s0 s1 d.asked d.lines status → Kept status
    by (inl quiet) (inl (inl (is, puts))) = elim (memory_or d.asked) [
      | inl memory ↦ inl (is ∙ memory)
      | inr other ↦ subst Kept (sym is) (inr (concat d.lines, quiet.product contents tells other, puts.appends))
    ]
    by (inl quiet) (inl (inr (is, some))) = absurd (no_fault.sink (rises s0.faults s1.faults some.fault))
    by (inl quiet) (inr (made, inl (is, puts))) = inl is
    by (inl quiet) (inr (made, inr (is, some))) = absurd (no_fault.sink (rises s0.faults s1.faults some.fault))
    by (inr failed) ends = absurd (no_fault.files (rises f0.faults f1.faults failed.faults))

pub keeps_memory_prefix : (words : List (List ℕ)) (f0 f1 : Seen) (s0 s1 : Taken) (status : Status) → Does (WordsAsk words) f0 f1 s0 s1 status → KeepsMemoryPrefix s0 s1 status
unfolding KeepsMemoryPrefix
keeps_memory_prefix words f0 f1 s0 s1 status d memory = by (summary words f0 f1 d.reads d.asked d.lines d.asks d.were_read) d.ends
  where
    by : Quiet words f0 f1 d.asked d.lines ⊎ Failed words f0 f1 d.asked d.lines → EndsByOrMemory s0 s1 d.asked d.lines status → Appended s0 s1 (line_of Memory)
    by (inl quiet) (inl (inl (is, puts))) =
        let Puts : List (List ℕ) → Type 0 = λ ls. PutAll s0 s1 ls in
        appends_line s0 s1 Memory (subst Puts (quiet.memory_lines (sym is ∙ memory)) puts)
    by (inr failed) (inl (inl (is, puts))) = let no = sym failed.asked_is ∙ sym is ∙ memory in cc
    by q (inl (inr (is, some))) = let no = sym is ∙ memory in cc
    by q (inr (made, inl (is, puts))) = appends_line s0 s1 Memory puts
    by q (inr (made, inr (is, some))) = let no = sym is ∙ memory in cc

-- which text was being put
put_text : (words : List (List ℕ)) (f0 f1 : Seen) (asked : Status) (lines : List (List ℕ)) → Quiet words f0 f1 asked lines ⊎ Failed words f0 f1 asked lines
    → (contents : Contents) → f0.contents ≡ Some contents → IsPutText words contents f1 (concat lines)
put_text words f0 f1 asked lines (inl quiet) contents tells = elim (memory_or asked) [
  | inl memory ↦ inr (inl (ap concat (quiet.memory_lines memory) ∙ one_line Memory))
  | inr other ↦ inl (asked, quiet.product contents tells other)
]
put_text words f0 f1 asked lines (inr failed) contents tells =
    let text : concat lines ≡ line_of (ReadFault failed.role) = ap concat failed.lines_are ∙ one_line (ReadFault failed.role) in
    let Of : List ℕ → Type 0 = λ t. IsProduct words (without failed.role contents) (ReadFault failed.role) t in
    inr (inr (record { role = failed.role; failed = failed.failed; last = failed.last; product = subst Of (sym text) (failed.product contents tells) }))

pub keeps_fault_causes : (words : List (List ℕ)) (f0 f1 : Seen) (s0 s1 : Taken) (status : Status) → Does (WordsAsk words) f0 f1 s0 s1 status
    → KeepsFaultCauses words f0 f1 s0 s1 status
keeps_fault_causes words f0 f1 s0 s1 status d =
    let read = summary words f0 f1 d.reads d.asked d.lines d.asks d.were_read in
    record {
      read_fault = λ role e. read_by read d.ends role e;
      write_fault = λ e. write_by read d.ends e;
      sink_fault = λ more. sink_by d.ends more;
      files_fault = λ more. files_by read d.ends more;
      files_alone = λ more alone. alone_by read d.ends more alone;
    }
  where
    Read : Type 0
    Read = Quiet words f0 f1 d.asked d.lines ⊎ Failed words f0 f1 d.asked d.lines

    no_memory_taken : Failed words f0 f1 d.asked d.lines → has_fixed_line d.asked ≡ false → ⊥
    no_memory_taken failed made = let no : true ≡ false = ap has_fixed_line (sym failed.asked_is) ∙ made in cc

    read_by : Read → EndsByOrMemory s0 s1 d.asked d.lines status → (role : Role) → status ≡ ReadFault role → IsReadFault words role f0 f1 s0 s1
    read_by (inl quiet) (inl (inl (is, puts))) role e = absurd (quiet.not_read_fault role (sym is ∙ e))
    read_by (inr failed) (inl (inl (is, puts))) role e =
        let one : failed.role ≡ role = same_read failed.role role (sym failed.asked_is ∙ sym is ∙ e) in
        let At : Role → Type 0 = λ r. IsReadFault words r f0 f1 s0 s1 in
        let Puts : List (List ℕ) → Type 0 = λ ls. PutAll s0 s1 ls in
        subst At one (record {
          rose = rises f0.faults f1.faults failed.faults;
          failed = failed.failed;
          last = failed.last;
          line = appends_line s0 s1 (ReadFault failed.role) (subst Puts failed.lines_are puts);
          product = failed.product;
        })
    read_by q (inl (inr (is, some))) role e = let no = sym is ∙ e in cc
    read_by q (inr (made, inl (is, puts))) role e = let no = sym is ∙ e in cc
    read_by q (inr (made, inr (is, some))) role e = let no = sym is ∙ e in cc

    write_by : Read → EndsByOrMemory s0 s1 d.asked d.lines status → status ≡ WriteFault → IsWriteFault words f0 f1 s0 s1
    write_by (inl quiet) (inl (inl (is, puts))) e = absurd (quiet.not_write_fault (sym is ∙ e))
    write_by (inr failed) (inl (inl (is, puts))) e = let no = sym failed.asked_is ∙ sym is ∙ e in cc
    write_by q (inl (inr (is, some))) e = record {
      rose = rises s0.faults s1.faults some.fault;
      prefix = λ contents tells. (concat d.lines, put_text words f0 f1 d.asked d.lines q contents tells, some_prefix some);
    }
    write_by q (inr (made, inl (is, puts))) e = let no = sym is ∙ e in cc
    write_by q (inr (made, inr (is, some))) e = record {
      rose = rises s0.faults s1.faults some.fault;
      prefix = λ contents tells. (concat (line_of Memory ∷ []), inr (inl (one_line Memory)), some_prefix some);
    }

    sink_by : EndsByOrMemory s0 s1 d.asked d.lines status → s0.faults < s1.faults → status ≡ WriteFault
    sink_by (inl (inl (is, puts))) more = absurd (omega (arith, more, puts.no_fault))
    sink_by (inl (inr (is, some))) more = is
    sink_by (inr (made, inl (is, puts))) more = absurd (omega (arith, more, puts.no_fault))
    sink_by (inr (made, inr (is, some))) more = is

    files_by : Read → EndsByOrMemory s0 s1 d.asked d.lines status → f0.faults < f1.faults
        → ((role : Role) × (status ≡ ReadFault role)) ⊎ (status ≡ WriteFault)
    files_by (inl quiet) ends more = absurd (omega (arith, more, quiet.faults))
    files_by (inr failed) (inl (inl (is, puts))) more = inl (failed.role, is ∙ failed.asked_is)
    files_by (inr failed) (inl (inr (is, some))) more = inr is
    files_by (inr failed) (inr (made, ends)) more = absurd (no_memory_taken failed made)

    alone_by : Read → EndsByOrMemory s0 s1 d.asked d.lines status → f0.faults < f1.faults → ¬ (Rose s0.faults s1.faults)
        → (role : Role) × (status ≡ ReadFault role)
    alone_by (inl quiet) ends more alone = absurd (omega (arith, more, quiet.faults))
    alone_by (inr failed) (inl (inl (is, puts))) more alone = (failed.role, is ∙ failed.asked_is)
    alone_by (inr failed) (inl (inr (is, some))) more alone = absurd (alone (rises s0.faults s1.faults some.fault))
    alone_by (inr failed) (inr (made, ends)) more alone = absurd (no_memory_taken failed made)

pub keeps_untold : (words : List (List ℕ)) (f0 f1 : Seen) (s0 s1 : Taken) (status : Status) → Does (WordsAsk words) f0 f1 s0 s1 status → KeepsUntold words f0 f1 s0 s1 status
keeps_untold words f0 f1 s0 s1 status d =
    let read = summary words f0 f1 d.reads d.asked d.lines d.asks d.were_read in
    record {
      does = d;
      usage = λ e. usage_by read d.ends e;
      no_command = λ none. none_by read d.ends none;
      long = λ role e. long_by read d.ends role e;
    }
  where
    Read : Type 0
    Read = Quiet words f0 f1 d.asked d.lines ⊎ Failed words f0 f1 d.asked d.lines

    usage_by : Read → EndsByOrMemory s0 s1 d.asked d.lines status → status ≡ Usage → HasNoCommand words
    usage_by (inl quiet) (inl (inl (is, puts))) e = quiet.usage (sym is ∙ e)
    usage_by (inr failed) (inl (inl (is, puts))) e = let no = sym failed.asked_is ∙ sym is ∙ e in cc
    usage_by q (inl (inr (is, some))) e = let no = sym is ∙ e in cc
    usage_by q (inr (made, inl (is, puts))) e = let no = sym is ∙ e in cc
    usage_by q (inr (made, inr (is, some))) e = let no = sym is ∙ e in cc

    none_by : Read → EndsByOrMemory s0 s1 d.asked d.lines status → HasNoCommand words → (f1 ≡ f0) × ((status ≡ Usage) ⊎ ((status ≡ WriteFault) ⊎ (status ≡ Memory)))
    none_by (inl quiet) (inl (inl (is, puts))) none = let u = quiet.no_command none in (
      u.0,
      elim u.1 [
        | inl usage ↦ inl (is ∙ usage)
        | inr memory ↦ inr (inr (is ∙ memory))
      ],
    )
    none_by (inl quiet) (inl (inr (is, some))) none = ((quiet.no_command none).0, inr (inl is))
    none_by (inl quiet) (inr (made, inl (is, puts))) none = ((quiet.no_command none).0, inr (inr is))
    none_by (inl quiet) (inr (made, inr (is, some))) none = ((quiet.no_command none).0, inr (inl is))
    none_by (inr failed) ends none = absurd (failed.has_command none)

    long_by : Read → EndsByOrMemory s0 s1 d.asked d.lines status → (role : Role) → status ≡ Long role → (longest_file < f1.last.taken) × LastReadWas words role f1
    long_by (inl quiet) (inl (inl (is, puts))) role e = quiet.long role (sym is ∙ e)
    long_by (inr failed) (inl (inl (is, puts))) role e = let no = sym failed.asked_is ∙ sym is ∙ e in cc
    long_by q (inl (inr (is, some))) role e = let no = sym is ∙ e in cc
    long_by q (inr (made, inl (is, puts))) role e = let no = sym is ∙ e in cc
    long_by q (inr (made, inr (is, some))) role e = let no = sym is ∙ e in cc

pub is_complete : (words : List (List ℕ)) (f0 f1 : Seen) (s0 s1 : Taken) (status : Status) → Does (WordsAsk words) f0 f1 s0 s1 status → IsComplete words f0 f1 s0 s1 status
unfolding IsComplete KeepsProduct
is_complete words f0 f1 s0 s1 status d contents text tells no_fault product = elim (keeps_product words f0 f1 s0 s1 status d contents tells no_fault) [
  | inl memory ↦ inl memory
  | inr kept ↦
      let once = one_product words (told contents) status Done kept.0 text kept.1 product in
      inr (once.0, kept.2 ∙ ap (appended s0.bytes) once.1)
]
