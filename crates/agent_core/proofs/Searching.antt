-- Actions that are tested for marks and tried one after another.
use Rattle.std.proofs.Common.{ℕ, ◌≡◌, ◌<◌, ◌+◌, List, [], ◌∷◌, length, get_or, drop, map, Bool, true, false, ◌||◌, inl, inr, Ok, Err, refl, sym, ap, subst, ◌∙◌}
use Rattle.std.specs.declared.option.Option.{Option}
use Rattle.std.specs.declared.result.Result.{Result}
use Rattle.std.specs.Prelude.{◌≢◌, All, IsSomeAnd, None, Some}
use Rattle.std.specs.List.{cons_option, filter_map}
use Rattle.std.proofs.Math.Bool.{or-true, or-false}
use Rattle.std.proofs.lemmas.List.{drop_more}
use Rattle.std.proofs.lemmas.List.Elements.{All-head, All-tail}
use Rattle.line_forms.specs.Numbers.{IsId}
use Rattle.fix_site.specs.declared.action.Action.{Action}
use Rattle.act_rules.specs.Rows.{last_row}
use Rattle.script_run.specs.Asking.{When}
use Rattle.bf_machine.specs.Views.{MachineView}
use Rattle.agent_text.specs.declared.pocket.SaveResult.TheVariants as save
use Rattle.agent_text.specs.Histories.{PlainHistory, rows_at, with_cleared}
use Rattle.agent_attempt.specs.declared.found.Found.{Found}
use Rattle.agent_attempt.specs.declared.found.Found.TheVariants.{Yes, No, Failed, Memory as FoundMemory}
use Rattle.agent_attempt.specs.declared.read_block.ReadBlock.{ReadBlock}
use Rattle.agent_attempt.specs.ReadBlocks.{shown_block}
use Rattle.agent_attempt.specs.ActionContents.{Content, as_action, content_of}
use Rattle.agent_attempt.specs.Relevance.{ContentIs, IsDue, MayBegin}
use Rattle.agent_attempt.specs.Stages.{AttemptState, shown_attempt}
use Rattle.agent_core.specs.declared.turned.Turned.{Turned}
use Rattle.agent_core.specs.declared.turned.Turned.TheVariants.{MachineFault, Memory}
use Rattle.agent_core.specs.Saving.{Answers, Ending}
use Rattle.agent_state.specs.States.{State, with_histories}
use Rattle.agent_core.specs.Devices.{Devices, devices}
use Rattle.agent_text.specs.Pockets.{PocketView}
use Rattle.agent_core.specs.Steps.{AnswersTry, BeginsAs, BeginsOne, CanBegin, FindsAfter, FindsDue, MarksAfter, MarksEach, MayTry, TestsMark, TriesOne, mark_by, marked_by}
use Rattle.agent_core.specs.Turns.{AfterTrying, Begins, Clears, Marks, TestsOne, Tries, TriesEach, TriesMarked, beginning, may_clear, no_marks, with_mark}
use Rattle.agent_core.proofs.Due.{can_begin, due_may}
use Rattle.agent_core.proofs.Flowing.{no_save}

-- ---- the actions among blocks
abbrev pub shown_actions : List ReadBlock → List Action
shown_actions blocks = filter_map as_action (map shown_block blocks)

blocks_split : (blocks : List ReadBlock) (i : ℕ) (block : ReadBlock) → i < length blocks → block ≡ get_or blocks i block → drop i blocks ≡ block ∷ drop (i + 1) blocks
blocks_split blocks i block inside is = drop_more blocks i block inside ∙ ap (λ b. b ∷ drop (i + 1) blocks) (sym is)

-- ---- marks
abbrev pub marks_of : List PlainHistory → Bool → Marks
marks_of hs any = record { histories = hs; any = any }

-- from where a loop stands it comes to what the whole comes to
abbrev pub MarksOn : (Result Bool Turned → List PlainHistory → MachineView → Type 0) → (Result Bool Turned → List PlainHistory → MachineView → Type 0) → Type 0
MarksOn one whole = (answer : Result Bool Turned) (hs : List PlainHistory) (later : MachineView) → one answer hs later → whole answer hs later

abbrev pub FindsOn : (Result (Option AttemptState) Turned → MachineView → Type 0) → (Result (Option AttemptState) Turned → MachineView → Type 0) → Type 0
FindsOn one whole = (answer : Result (Option AttemptState) Turned) (later : MachineView) → one answer later → whole answer later

module _ (at : When) (s : State) where
  moved : (rest : List Action) (marks others : Marks) (v w : MachineView) (answer : Result Bool Turned) (hs : List PlainHistory) (later : MachineView) → marks ≡ others → v ≡ w → MarksEach at s rest marks v answer hs later → MarksEach at s rest others w answer hs later
  moved rest marks others v w answer hs later same still h =
      subst (λ x. MarksEach at s rest others x answer hs later) still (subst (λ x. MarksEach at s rest x v answer hs later) same h)

  after_first : (m : Result Bool Turned) (id : ℕ) (rest : List Action) (any mark : Bool) (hs now : List PlainHistory) (between mid : MachineView) (answer : Result Bool Turned) (more : List PlainHistory) (later : MachineView)
      → MarksAfter (λ (is : Bool). MarksEach at s [] (marked_by at id is (marks_of hs false))) m between (Ok mark) now mid → MarksEach at s rest (marks_of now (any || mark)) mid answer more later
      → MarksAfter (λ (is : Bool). MarksEach at s rest (marked_by at id is (marks_of hs any))) m between answer more later
  after_first (Ok true) id rest any mark hs now between mid answer more later t k =
      let on : mark ≡ true = (let e = t.0 in cc) in
      moved rest (marks_of now (any || mark)) (with_mark at id (marks_of hs any)) mid between answer more later (λ j. marks_of (t.1 j) ((ap (λ b. any || b) on ∙ or-true any) j)) t.2 k
  after_first (Ok false) id rest any mark hs now between mid answer more later t k =
      let off : mark ≡ false = (let e = t.0 in cc) in
      moved rest (marks_of now (any || mark)) (marks_of hs any) mid between answer more later (λ j. marks_of (t.1 j) ((ap (λ b. any || b) off ∙ or-false any) j)) t.2 k
  after_first (Err stop) id rest any mark hs now between mid answer more later t k = let e = t.0 in absurd (cc)

  -- the first is tested, and then the others
  first_marks : (first : Option Action) (rest : List Action) (any mark : Bool) (hs now : List PlainHistory) (old mid : MachineView) (answer : Result Bool Turned) (more : List PlainHistory) (later : MachineView)
      → MarksEach at s (cons_option first []) (marks_of hs false) old (Ok mark) now mid → MarksEach at s rest (marks_of now (any || mark)) mid answer more later → MarksEach at s (cons_option first rest) (marks_of hs any) old answer more later
  first_marks None rest any mark hs now old mid answer more later h k =
      let off : mark ≡ false = (let e = h.0 in cc) in
      moved rest (marks_of now (any || mark)) (marks_of hs any) mid old answer more later (λ j. marks_of (h.1 j) ((ap (λ b. any || b) off ∙ or-false any) j)) h.2 k
  first_marks (Some action) rest any mark hs now old mid answer more later h k = (h.0, h.1, h.2, after_first h.0 action.id rest any mark hs now h.1 mid answer more later h.3 k)

  after_stops : (m : Result Bool Turned) (id : ℕ) (rest : List Action) (any : Bool) (stop : Turned) (hs now : List PlainHistory) (between mid : MachineView)
      → MarksAfter (λ (is : Bool). MarksEach at s [] (marked_by at id is (marks_of hs false))) m between (Err stop) now mid
      → MarksAfter (λ (is : Bool). MarksEach at s rest (marked_by at id is (marks_of hs any))) m between (Err stop) now mid
  after_stops (Ok mark) id rest any stop hs now between mid t = let e = t.0 in absurd (cc)
  after_stops (Err other) id rest any stop hs now between mid t = t

  -- the first is where the turn stops
  first_stops : (first : Option Action) (rest : List Action) (any : Bool) (stop : Turned) (hs now : List PlainHistory) (old mid : MachineView)
      → MarksEach at s (cons_option first []) (marks_of hs false) old (Err stop) now mid → MarksEach at s (cons_option first rest) (marks_of hs any) old (Err stop) now mid
  first_stops None rest any stop hs now old mid h = let e = h.0 in absurd (cc)
  first_stops (Some action) rest any stop hs now old mid h = (h.0, h.1, h.2, after_stops h.0 action.id rest any stop hs now h.1 mid h.3)

  pub marks_next : (blocks : List ReadBlock) (i : ℕ) (block : ReadBlock) (any mark then : Bool) (hs now : List PlainHistory) (old mid : MachineView) (whole : Result Bool Turned → List PlainHistory → MachineView → Type 0)
      → i < length blocks → block ≡ get_or blocks i block → then ≡ (any || mark) → MarksOn (MarksEach at s (shown_actions (drop i blocks)) (marks_of hs any) old) whole
      → MarksEach at s (shown_actions (block ∷ [])) (marks_of hs false) old (Ok mark) now mid → MarksOn (MarksEach at s (shown_actions (drop (i + 1) blocks)) (marks_of now then) mid) whole
  marks_next blocks i block any mark then hs now old mid whole inside is more goes h answer hs2 later k =
      goes answer hs2 later (subst (λ l. MarksEach at s (shown_actions l) (marks_of hs any) old answer hs2 later) (sym (blocks_split blocks i block inside is))
      (first_marks (as_action (shown_block block)) (shown_actions (drop (i + 1) blocks)) any mark hs now old mid answer hs2 later h (subst (λ b. MarksEach at s (shown_actions (drop (i + 1) blocks)) (marks_of now b) mid answer hs2 later) more k)))

  pub marks_stop : (blocks : List ReadBlock) (i : ℕ) (block : ReadBlock) (any : Bool) (stop : Turned) (hs now : List PlainHistory) (old mid : MachineView) (whole : Result Bool Turned → List PlainHistory → MachineView → Type 0)
      → i < length blocks → block ≡ get_or blocks i block → MarksOn (MarksEach at s (shown_actions (drop i blocks)) (marks_of hs any) old) whole
      → MarksEach at s (shown_actions (block ∷ [])) (marks_of hs false) old (Err stop) now mid → whole (Err stop) now mid
  marks_stop blocks i block any stop hs now old mid whole inside is goes h =
      goes (Err stop) now mid (subst (λ l. MarksEach at s (shown_actions l) (marks_of hs any) old (Err stop) now mid) (sym (blocks_split blocks i block inside is))
      (first_stops (as_action (shown_block block)) (shown_actions (drop (i + 1) blocks)) any stop hs now old mid h))

  -- ---- the first action that is due
  passed_first : (one : Result (Option AttemptState) Turned) (hs : List PlainHistory) (rest : List Action) (between mid : MachineView) (answer : Result (Option AttemptState) Turned) (later : MachineView)
      → FindsAfter (FindsDue at s hs []) one between (Ok None) mid → FindsDue at s hs rest mid answer later → FindsAfter (FindsDue at s hs rest) one between answer later
  passed_first (Ok None) hs rest between mid answer later t k = subst (λ v. FindsDue at s hs rest v answer later) t.1 k
  passed_first (Ok (Some attempt)) hs rest between mid answer later t k = let e = t.0 in absurd (cc)
  passed_first (Err stop) hs rest between mid answer later t k = let e = t.0 in absurd (cc)

  first_passed : (first : Option Action) (hs : List PlainHistory) (rest : List Action) (old mid : MachineView) (answer : Result (Option AttemptState) Turned) (later : MachineView)
      → FindsDue at s hs (cons_option first []) old (Ok None) mid → FindsDue at s hs rest mid answer later → FindsDue at s hs (cons_option first rest) old answer later
  first_passed None hs rest old mid answer later h k = subst (λ v. FindsDue at s hs rest v answer later) h.1 k
  first_passed (Some action) hs rest old mid answer later h k = (h.0, h.1, h.2, passed_first h.0 hs rest h.1 mid answer later h.3 k)

  found_first : (one : Result (Option AttemptState) Turned) (hs : List PlainHistory) (rest : List Action) (between : MachineView) (answer : Result (Option AttemptState) Turned) (later : MachineView) → answer ≢ Ok None
      → FindsAfter (FindsDue at s hs []) one between answer later → FindsAfter (FindsDue at s hs rest) one between answer later
  found_first (Ok None) hs rest between answer later isnt t = absurd (isnt t.0)
  found_first (Ok (Some attempt)) hs rest between answer later isnt t = t
  found_first (Err stop) hs rest between answer later isnt t = t

  first_found : (first : Option Action) (hs : List PlainHistory) (rest : List Action) (old : MachineView) (answer : Result (Option AttemptState) Turned) (later : MachineView) → answer ≢ Ok None
      → FindsDue at s hs (cons_option first []) old answer later → FindsDue at s hs (cons_option first rest) old answer later
  first_found None hs rest old answer later isnt h = absurd (isnt h.0)
  first_found (Some action) hs rest old answer later isnt h = (h.0, h.1, h.2, found_first h.0 hs rest h.1 answer later isnt h.3)

  pub finds_next : (hs : List PlainHistory) (blocks : List ReadBlock) (i : ℕ) (block : ReadBlock) (old mid : MachineView) (whole : Result (Option AttemptState) Turned → MachineView → Type 0) → i < length blocks → block ≡ get_or blocks i block
      → FindsOn (FindsDue at s hs (shown_actions (drop i blocks)) old) whole → FindsDue at s hs (shown_actions (block ∷ [])) old (Ok None) mid → FindsOn (FindsDue at s hs (shown_actions (drop (i + 1) blocks)) mid) whole
  finds_next hs blocks i block old mid whole inside is goes h answer later k =
      goes answer later (subst (λ l. FindsDue at s hs (shown_actions l) old answer later) (sym (blocks_split blocks i block inside is))
      (first_passed (as_action (shown_block block)) hs (shown_actions (drop (i + 1) blocks)) old mid answer later h k))

  pub finds_stop : (hs : List PlainHistory) (blocks : List ReadBlock) (i : ℕ) (block : ReadBlock) (old : MachineView) (whole : Result (Option AttemptState) Turned → MachineView → Type 0) (answer : Result (Option AttemptState) Turned) (later : MachineView)
      → i < length blocks → block ≡ get_or blocks i block → answer ≢ Ok None → FindsOn (FindsDue at s hs (shown_actions (drop i blocks)) old) whole → FindsDue at s hs (shown_actions (block ∷ [])) old answer later → whole answer later
  finds_stop hs blocks i block old whole answer later inside is isnt goes h =
      goes answer later (subst (λ l. FindsDue at s hs (shown_actions l) old answer later) (sym (blocks_split blocks i block inside is))
      (first_found (as_action (shown_block block)) hs (shown_actions (drop (i + 1) blocks)) old answer later isnt h))

  -- ---- what an action comes to that was tried
  no_beginning : (content : Option Content) (marked : State) (action : Action) → BeginsOne at marked action content (Ok None) → ⊥
  no_beginning None marked action h = h
  no_beginning (Some content) marked action (inl e) = cc
  no_beginning (Some content) marked action (inr h) = let e = h.1 in cc

  tried_none : (found : Found) (marked : State) (action : Action) → AnswersTry at s marked action found (Ok None) → found ≡ No
  tried_none Yes marked action h = absurd (no_beginning (content_of action s.sites) marked action h)
  tried_none No marked action h = refl
  tried_none Failed marked action h = absurd (cc)
  tried_none FoundMemory marked action h = absurd (cc)

  -- it begins
  record IsBegun (marked : State) (action : Action) (found : Found) (attempt : AttemptState) : Type 0 where
    content : Content
    yes : found ≡ Yes
    there : content_of action s.sites ≡ Some content
    is : shown_attempt attempt ≡ beginning at action content marked

  begun_one : (o : Option Content) (marked : State) (action : Action) (attempt : AttemptState) → content_of action s.sites ≡ o → BeginsOne at marked action o (Ok (Some attempt)) → IsBegun marked action Yes attempt
  begun_one None marked action attempt there h = absurd h
  begun_one (Some content) marked action attempt there (inl e) = absurd (cc)
  begun_one (Some content) marked action attempt there (inr h) =
      let same : attempt ≡ h.0 = (let e = h.1 in cc) in
      record { content = content; yes = refl; there = there; is = ap shown_attempt same ∙ h.2 }

  tried_some : (found : Found) (marked : State) (action : Action) (attempt : AttemptState) → AnswersTry at s marked action found (Ok (Some attempt)) → IsBegun marked action found attempt
  tried_some Yes marked action attempt h = begun_one (content_of action s.sites) marked action attempt refl h
  tried_some No marked action attempt h = absurd (cc)
  tried_some Failed marked action attempt h = absurd (cc)
  tried_some FoundMemory marked action attempt h = absurd (cc)

  -- the turn stops there
  stop_begins : (o : Option Content) (marked : State) (action : Action) (stop : Turned) (d : Devices) → BeginsOne at marked action o (Err stop) → Begins at s marked action o d stop s d
  stop_begins None marked action stop d h = h
  stop_begins (Some content) marked action stop d (inl e) =
      let is : Memory ≡ stop = cc in
      subst (λ (a : Turned). Begins at s marked action (Some content) d a s d) is (save.Memory, d.pocket, no_save _ d.pocket, (refl, refl, refl))
  stop_begins (Some content) marked action stop d (inr h) = let e = h.1 in absurd (cc)

  tried_stop : (found : Found) (marked : State) (action : Action) (stop : Turned) (next : Devices → Ending) (d : Devices) → AnswersTry at s marked action found (Err stop) → AfterTrying at s marked action next found d stop s d
  tried_stop Yes marked action stop next d h = stop_begins (content_of action s.sites) marked action stop d h
  tried_stop No marked action stop next d h = absurd (cc)
  tried_stop Failed marked action stop next d h = (cc, refl, refl)
  tried_stop FoundMemory marked action stop next d h = (cc, refl, refl)

  -- ---- an attempt that was found can begin
  pub found_begins : (actions : List Action) (hs : List PlainHistory) (old later : MachineView) (attempt : AttemptState) → All (λ (action : Action). IsId action.id) actions → FindsDue at s hs actions old (Ok (Some attempt)) later → CanBegin (shown_attempt attempt) hs
  found_begins [] hs old later attempt ids h = let e = h.0 in absurd (cc)
  found_begins (action ∷ actions) hs old later attempt ids h = by_one h.0 h.2 h.3 (λ k. found_begins actions hs h.1 later attempt (All-tail (λ (x : Action). IsId x.id) action actions ids) k)
    where
      by_one : (one : Result (Option AttemptState) Turned) → TriesOne at s hs action old one h.1 → FindsAfter (FindsDue at s hs actions) one h.1 (Ok (Some attempt)) later
          → (FindsDue at s hs actions h.1 (Ok (Some attempt)) later → CanBegin (shown_attempt attempt) hs) → CanBegin (shown_attempt attempt) hs
      by_one (Ok None) tries t further = further t
      by_one (Ok (Some other)) tries t further =
          let same : attempt ≡ other = (let e = t.0 in cc) in
          let is = tried_some tries.0 (with_histories hs s) action other tries.2 in
          can_begin at s hs action is.content (shown_attempt attempt) (All-head (λ (x : Action). IsId x.id) action actions ids)
          (due_may at s.computer action (content_of action s.sites) (rows_at action.id hs) old h.1 (subst (λ f. IsDue at s.computer action (content_of action s.sites) (rows_at action.id hs) old f h.1) is.yes tries.1))
          (ap shown_attempt same ∙ is.is)
      by_one (Err stop) tries t further = let e = t.0 in absurd (cc)

  -- ---- what the turn comes to
  module _ (pocket : PocketView) (a : Turned) (s2 : State) (d2 : Devices) where
    abbrev pub ComesTo : List PlainHistory → Bool → Result (Option AttemptState) Turned → MachineView → Type 0
    ComesTo hs any (Ok None) later = TriesEach at s (with_histories hs s) any [] (devices later pocket) a s2 d2
    ComesTo hs any (Ok (Some attempt)) later = BeginsAs at s (with_histories hs s) (shown_attempt attempt) (devices later pocket) a s2 d2
    ComesTo hs any (Err stop) later = Answers stop s (devices later pocket) a s2 d2

    begins_there : (o : Option Content) (marked : State) (action : Action) (content : Content) (attempt : AttemptState) (d : Devices) → o ≡ Some content → shown_attempt attempt ≡ beginning at action content marked
        → BeginsAs at s marked (shown_attempt attempt) d a s2 d2 → Begins at s marked action o d a s2 d2
    begins_there o marked action content attempt d there is h =
        subst (λ (x : Option Content). Begins at s marked action x d a s2 d2) (sym there) (subst (λ x. BeginsAs at s marked x d a s2 d2) is h)

    stopped_there : (P : Ending) (stop : Turned) (d : Devices) → Answers stop s d a s2 d2 → P stop s d → P a s2 d2
    stopped_there P stop d h p = subst (λ x. P x s2 d2) (sym h.0) (subst (λ x. P stop x d2) (sym h.1) (subst (λ x. P stop s x) (sym h.2) p))

    after_one : (one : Result (Option AttemptState) Turned) (hs : List PlainHistory) (any : Bool) (actions : List Action) (action : Action) (between : MachineView) (answer : Result (Option AttemptState) Turned) (later : MachineView) (found : Found)
        → AnswersTry at s (with_histories hs s) action found one → FindsAfter (FindsDue at s hs actions) one between answer later → ComesTo hs any answer later
        → (FindsDue at s hs actions between answer later → TriesEach at s (with_histories hs s) any actions (devices between pocket) a s2 d2)
        → AfterTrying at s (with_histories hs s) action (TriesEach at s (with_histories hs s) any actions) found (devices between pocket) a s2 d2
    after_one (Ok None) hs any actions action between answer later found tried t comes further =
        subst (λ (f : Found). AfterTrying at s (with_histories hs s) action (TriesEach at s (with_histories hs s) any actions) f (devices between pocket) a s2 d2) (sym (tried_none found (with_histories hs s) action tried)) (further t)
    after_one (Ok (Some attempt)) hs any actions action between answer later found tried t comes further =
        let is = tried_some found (with_histories hs s) action attempt tried in
        let here : ComesTo hs any (Ok (Some attempt)) between = subst (λ v. ComesTo hs any (Ok (Some attempt)) v) t.1 (subst (λ r. ComesTo hs any r later) t.0 comes) in
        subst (λ (f : Found). AfterTrying at s (with_histories hs s) action (TriesEach at s (with_histories hs s) any actions) f (devices between pocket) a s2 d2) (sym is.yes)
        (begins_there (content_of action s.sites) (with_histories hs s) action is.content attempt (devices between pocket) is.there is.is here)
    after_one (Err stop) hs any actions action between answer later found tried t comes further =
        let here : ComesTo hs any (Err stop) between = subst (λ v. ComesTo hs any (Err stop) v) t.1 (subst (λ r. ComesTo hs any r later) t.0 comes) in
        stopped_there (AfterTrying at s (with_histories hs s) action (TriesEach at s (with_histories hs s) any actions) found (devices between pocket)) stop (devices between pocket) here
        (tried_stop found (with_histories hs s) action stop _ (devices between pocket) tried)

    pub tries_found : (actions : List Action) (hs : List PlainHistory) (any : Bool) (old : MachineView) (answer : Result (Option AttemptState) Turned) (later : MachineView) → FindsDue at s hs actions old answer later → ComesTo hs any answer later
        → TriesEach at s (with_histories hs s) any actions (devices old pocket) a s2 d2
    tries_found [] hs any old answer later h comes =
        subst (λ v. TriesEach at s (with_histories hs s) any [] (devices v pocket) a s2 d2) h.1 (subst (λ r. ComesTo hs any r later) h.0 comes)
    tries_found (action ∷ actions) hs any old answer later h comes = (
      h.2.0,
      h.1,
      h.2.1,
      after_one h.0 hs any actions action h.1 answer later h.2.0 h.2.2 h.3 comes (λ k. tries_found actions hs any h.1 answer later k comes),
    )

    -- ---- marks, and then what comes after them
    abbrev pub ComesMarked : (Marks → Devices → Ending) → Result Bool Turned → List PlainHistory → MachineView → Type 0
    ComesMarked next (Ok any) hs later = next (marks_of hs any) (devices later pocket) a s2 d2
    ComesMarked next (Err stop) hs later = Answers stop s (devices later pocket) a s2 d2

    test_stops : (next : Marks → Devices → Ending) (stop : Turned) (hs : List PlainHistory) (between : MachineView) (answer : Result Bool Turned) (later : MachineView) → (answer ≡ Err stop) × (later ≡ between) → ComesMarked next answer hs later
        → Answers stop s (devices between pocket) a s2 d2
    test_stops next stop hs between answer later t comes = subst (λ v. ComesMarked next (Err stop) hs v) t.1 (subst (λ r. ComesMarked next r hs later) t.0 comes)

    after_test : (found : Found) (mark : Result Bool Turned) (next : Marks → Devices → Ending) (actions : List Action) (action : Action) (marks : Marks) (old between : MachineView) (answer : Result Bool Turned) (hs : List PlainHistory) (later : MachineView)
        → ContentIs at (content_of action s.sites) old found between → mark ≡ mark_by found
        → MarksAfter (λ (is : Bool). MarksEach at s actions (marked_by at action.id is marks)) mark between answer hs later → ComesMarked next answer hs later
        → ((others : Marks) (v : MachineView) → MarksEach at s actions others v answer hs later → Clears at s actions others next (devices v pocket) a s2 d2)
        → TestsOne true at s action marks (λ (then : Marks). Clears at s actions then next) (devices old pocket) a s2 d2
    after_test Yes mark next actions action marks old between answer hs later asks is t comes further =
        (Yes, between, asks, further marks between (subst (λ x. MarksAfter (λ (is : Bool). MarksEach at s actions (marked_by at action.id is marks)) x between answer hs later) is t))
    after_test No mark next actions action marks old between answer hs later asks is t comes further =
        (No, between, asks, further (with_mark at action.id marks) between (subst (λ x. MarksAfter (λ (is : Bool). MarksEach at s actions (marked_by at action.id is marks)) x between answer hs later) is t))
    after_test Failed mark next actions action marks old between answer hs later asks is t comes further =
        (Failed, between, asks, test_stops next MachineFault hs between answer later (subst (λ x. MarksAfter (λ (is : Bool). MarksEach at s actions (marked_by at action.id is marks)) x between answer hs later) is t) comes)
    after_test FoundMemory mark next actions action marks old between answer hs later asks is t comes further =
        (FoundMemory, between, asks, test_stops next Memory hs between answer later (subst (λ x. MarksAfter (λ (is : Bool). MarksEach at s actions (marked_by at action.id is marks)) x between answer hs later) is t) comes)

    tests_one : (may : Bool) (mark : Result Bool Turned) (next : Marks → Devices → Ending) (actions : List Action) (action : Action) (marks : Marks) (old between : MachineView) (answer : Result Bool Turned) (hs : List PlainHistory) (later : MachineView)
        → TestsMark may at s action old mark between
        → MarksAfter (λ (is : Bool). MarksEach at s actions (marked_by at action.id is marks)) mark between answer hs later → ComesMarked next answer hs later
        → ((others : Marks) (v : MachineView) → MarksEach at s actions others v answer hs later → Clears at s actions others next (devices v pocket) a s2 d2)
        → TestsOne may at s action marks (λ (then : Marks). Clears at s actions then next) (devices old pocket) a s2 d2
    tests_one false mark next actions action marks old between answer hs later tests t comes further =
        subst (λ v. Clears at s actions marks next (devices v pocket) a s2 d2) tests.1
        (further marks between (subst (λ x. MarksAfter (λ (is : Bool). MarksEach at s actions (marked_by at action.id is marks)) x between answer hs later) tests.0 t))
    tests_one true mark next actions action marks old between answer hs later tests t comes further =
        after_test tests.0 mark next actions action marks old between answer hs later tests.1 tests.2 t comes further

    pub clears_by : (actions : List Action) (marks : Marks) (next : Marks → Devices → Ending) (old : MachineView) (answer : Result Bool Turned) (hs : List PlainHistory) (later : MachineView) → MarksEach at s actions marks old answer hs later → ComesMarked next answer hs later
        → Clears at s actions marks next (devices old pocket) a s2 d2
    clears_by [] marks next old answer hs later h comes =
        subst (λ v. next marks (devices v pocket) a s2 d2) h.2 (subst (λ (x : List PlainHistory). next (marks_of x marks.any) (devices later pocket) a s2 d2) h.1 (subst (λ r. ComesMarked next r hs later) h.0 comes))
    clears_by (action ∷ actions) marks next old answer hs later h comes =
        tests_one (may_clear (last_row (rows_at action.id marks.histories))) h.0 next actions action marks old h.1 answer hs later h.2 h.3 comes (λ others v k. clears_by actions others next v answer hs later k comes)

    -- the marks, and then the search
    pub tries_marked : (all : List Action) (old between : MachineView) (any : Bool) (hs : List PlainHistory) (answer : Result (Option AttemptState) Turned) (later : MachineView)
        → MarksEach at s all (no_marks s) old (Ok any) hs between → FindsDue at s hs all between answer later → ComesTo hs any answer later → Tries at s all (devices old pocket) a s2 d2
    tries_marked all old between any hs answer later marks finds comes =
        inr (clears_by all (no_marks s) (TriesMarked at s all) old (Ok any) hs between marks (tries_found all hs any between answer later finds comes))

    pub tries_stopped : (all : List Action) (old between : MachineView) (stop : Turned) (hs : List PlainHistory) → MarksEach at s all (no_marks s) old (Err stop) hs between → Answers stop s (devices between pocket) a s2 d2 → Tries at s all (devices old pocket) a s2 d2
    tries_stopped all old between stop hs marks h = inr (clears_by all (no_marks s) (TriesMarked at s all) old (Err stop) hs between marks h)

-- ---- a block by itself
pub marks_block : (at : When) (s : State) (block : ReadBlock) (action : Action) (hs now : List PlainHistory) (old new : MachineView) (answer : Result Bool Turned) → as_action (shown_block block) ≡ Some action
    → MarksEach at s (action ∷ []) (marks_of hs false) old answer now new → MarksEach at s (shown_actions (block ∷ [])) (marks_of hs false) old answer now new
marks_block at s block action hs now old new answer is h = subst (λ (o : Option Action). MarksEach at s (cons_option o []) (marks_of hs false) old answer now new) (sym is) h

pub marks_other : (at : When) (s : State) (block : ReadBlock) (hs : List PlainHistory) (v : MachineView) → as_action (shown_block block) ≡ None → MarksEach at s (shown_actions (block ∷ [])) (marks_of hs false) v (Ok false) hs v
marks_other at s block hs v isnt = subst (λ (o : Option Action). MarksEach at s (cons_option o []) (marks_of hs false) v (Ok false) hs v) (sym isnt) (refl, refl, refl)

one_after : (at : When) (s : State) (hs : List PlainHistory) (one : Result (Option AttemptState) Turned) (v : MachineView) → FindsAfter (FindsDue at s hs []) one v one v
one_after at s hs (Ok None) v = (refl, refl)
one_after at s hs (Ok (Some attempt)) v = (refl, refl)
one_after at s hs (Err stop) v = (refl, refl)

pub finds_block : (at : When) (s : State) (block : ReadBlock) (action : Action) (hs : List PlainHistory) (old new : MachineView) (answer : Result (Option AttemptState) Turned) → as_action (shown_block block) ≡ Some action
    → TriesOne at s hs action old answer new → FindsDue at s hs (shown_actions (block ∷ [])) old answer new
finds_block at s block action hs old new answer is h = subst (λ (o : Option Action). FindsDue at s hs (cons_option o []) old answer new) (sym is) (answer, new, h, one_after at s hs answer new)

pub finds_other : (at : When) (s : State) (block : ReadBlock) (hs : List PlainHistory) (v : MachineView) → as_action (shown_block block) ≡ None → FindsDue at s hs (shown_actions (block ∷ [])) v (Ok None) v
finds_other at s block hs v isnt = subst (λ (o : Option Action). FindsDue at s hs (cons_option o []) v (Ok None) v) (sym isnt) (refl, refl)

pub finds_untried : (at : When) (s : State) (block : ReadBlock) (hs : List PlainHistory) (v : MachineView) → ¬ MayTry at block hs → FindsDue at s hs (shown_actions (block ∷ [])) v (Ok None) v
finds_untried at s block hs v not = by (as_action (shown_block block)) refl
  where
    by : (o : Option Action) → as_action (shown_block block) ≡ o → FindsDue at s hs (shown_actions (block ∷ [])) v (Ok None) v
    by None is = finds_other at s block hs v is
    by (Some action) is =
        finds_block at s block action hs v v (Ok None) is
        (No, inr ((λ may. not (subst (λ o. IsSomeAnd o (λ (a : Action). MayBegin at a (rows_at a.id hs))) (sym is) may)), (refl, refl)), refl)

-- an action that was tested by itself
pub marks_one : (at : When) (s : State) (action : Action) (mark : Bool) (hs now : List PlainHistory) (old new : MachineView) → mark ≡ true → TestsMark (may_clear (last_row (rows_at action.id hs))) at s action old (Ok mark) new
    → now ≡ with_cleared action.id at.moment hs → MarksEach at s (action ∷ []) (marks_of hs false) old (Ok true) now new
marks_one at s action true hs now old new on tests is = (Ok true, new, tests, (refl, is, refl))
marks_one at s action false hs now old new on tests is = absurd (cc)

pub marks_none : (at : When) (s : State) (action : Action) (mark : Bool) (hs : List PlainHistory) (old new : MachineView) → mark ≡ false → TestsMark (may_clear (last_row (rows_at action.id hs))) at s action old (Ok mark) new
    → MarksEach at s (action ∷ []) (marks_of hs false) old (Ok false) hs new
marks_none at s action false hs old new off tests = (Ok false, new, tests, (refl, refl, refl))
marks_none at s action true hs old new off tests = absurd (cc)

pub marks_error : (at : When) (s : State) (action : Action) (stop : Turned) (hs : List PlainHistory) (old new : MachineView) → TestsMark (may_clear (last_row (rows_at action.id hs))) at s action old (Err stop) new
    → MarksEach at s (action ∷ []) (marks_of hs false) old (Err stop) hs new
marks_error at s action stop hs old new tests = (Err stop, new, tests, (refl, refl))
