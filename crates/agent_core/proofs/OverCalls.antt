-- Lawful rows and backed attempts over calls of an agent, one after another.
use Rattle.std.proofs.Common.{◌≡◌, ℕ, List, [], ◌∷◌, codes, true, false, Bool, Option, Some, None, refl, sym, ap, subst, arith}
use Rattle.std.specs.Prelude.{All, IsSome}
use Rattle.std.specs.Str.{bytes_eq}
use Rattle.std.proofs.lemmas.List.Elements.{All-head, All-nil, All-tail}
use Rattle.std.proofs.lemmas.Slice.Eq.{bytes_eq-Decides}
use Rattle.fix_site.specs.declared.site.Site.{Site}
use Rattle.line_forms.specs.Names.{IsName}
use Rattle.report_text.specs.declared.answer.Gathered.{Gathered}
use Rattle.report_text.specs.declared.answer.Gathered.TheVariants as gathered
use Rattle.report_text.specs.declared.answer.Verdict.{Verdict}
use Rattle.report_text.specs.declared.answer.Verdict.TheVariants as verdict
use Rattle.script_run.specs.Asking.{When}
use Rattle.agent_text.specs.declared.saved.Saved.{Saved}
use Rattle.agent_text.specs.Pockets.{Holds, PocketView}
use Rattle.agent_attempt.specs.Attempts.{PlainAttempt}
use Rattle.agent_attempt.specs.ActionContents.{actions_of}
use Rattle.agent_attempt.specs.Supplies.{Takes}
use Rattle.agent_core.specs.declared.turned.Turned.{Turned}
use Rattle.agent_core.specs.Agents.{shown_state}
use Rattle.agent_core.specs.Calls.{Call, gathers, turns, supplies, settles, restarts, DoAll, Does, IsCall}
use Rattle.agent_state.specs.Changes.{DropsState, GathersSite, SettlesState, SuppliesHeld, with_site}
use Rattle.agent_core.specs.declared.opening.Opened.{Opened}
use Rattle.agent_core.specs.declared.opening.Opened.TheVariants as opened
use Rattle.agent_core.specs.Opens.{IsAgentOf, OpensFrom, OpensLawful, new_state}
use Rattle.agent_state.specs.States.{IsSound, State}
use Rattle.agent_core.specs.Devices.{Devices}
use Rattle.agent_core.specs.Stops.{Agrees, AreLawful, AreLawfulIn, BothLawful, HaveRules, IsBacked, IsTextOfSaved, Table}
use Rattle.agent_core.specs.Turns.{Turn}
use Rattle.agent_core.proofs.Agreeing.{turn_agrees}
use Rattle.agent_core.proofs.KeptLawful.{Laws, turn_lawful}
use Rattle.agent_state.proofs.SiteActions.{actions_of_other, actions_of_own}
use Rattle.agent_core.proofs.TurnPoints.{Keeps, turn_keeps}

-- ---- a turn leaves the sites
abbrev Has : List Site → State → Type 0
Has sites s = s.sites ≡ sites

keeps_sites : (sites : List Site) (at : When) → Keeps at (λ s d. Has sites s) (λ marks s d. Has sites s) (λ began attempt s d. Has sites s) (λ changed would s d. Has sites s) (λ a s d. Has sites s)
keeps_sites sites at = record {
  memory = λ s d a. a;
  broken_done = λ s d id pocket a broken saves. a;
  broken_failed = λ s d id pocket a broken saves. a;
  broken_memory = λ s d id pocket a broken saves. a;
  resumes = λ s d attempt a broken held. a;
  held = λ began attempt s d component line machine after g goes. g;
  wants = λ began attempt s d digest machine after g goes. g;
  ends = λ began attempt s d fail note machine after g goes. g;
  lacks = λ began attempt s d machine after g goes. g;
  tries = λ s d a broken held. a;
  tested = λ marks s d action machine m may asks. m;
  marked = λ marks s d action machine m may asks. m;
  test_failed = λ marks s d action machine m asks. m;
  test_memory = λ marks s d action machine m asks. m;
  passed = λ marks s d action machine m asks. m;
  try_failed = λ marks s d action machine m asks. m;
  try_memory = λ marks s d action machine m asks. m;
  begun_done = λ marks s d action content machine pocket m due there among saves. m;
  begun_failed = λ marks s d action machine pocket m due among saves. m;
  begun_memory = λ marks s d action machine pocket m due saves. m;
  no_memory = λ marks s d m. m;
  idle = λ marks s d m. m;
  reported_done = λ changed would s d pocket b can saves. b;
  reported_failed = λ changed would s d pocket b can saves. b;
  reported_memory = λ changed would s d pocket b can saves. b;
  changed_done = λ would s d pocket b saves. b;
  changed_failed = λ would s d pocket b saves. b;
  changed_memory = λ would s d pocket b saves. b;
  unchanged = λ would s d b. b;
}

turn_sites : (at : When) (s s2 : State) (d d2 : Devices) (answer : Turned) → Turn at s d answer s2 d2 → s2.sites ≡ s.sites
turn_sites at s s2 d d2 answer turn =
    turn_keeps at (λ x d. Has s.sites x) (λ marks x d. Has s.sites x) (λ began attempt x d. Has s.sites x) (λ changed would x d. Has s.sites x) (λ a x d. Has s.sites x) (keeps_sites s.sites at) answer s2 d2 s d
    (λ e. refl) (λ pocket saves. refl) (λ pocket saves. refl) (λ pocket saves. refl) turn

-- ---- what stays over calls
record Stands (table : Table) (s : State) (saved : Option (List ℕ)) : Type 0 where
  sound : IsSound s
  rules : HaveRules table (actions_of s.sites)
  lawful : BothLawful table s (Some saved)
  agrees : Agrees s.held (Some saved)

-- with the same rows, and an attempt of the same row
stands_with : (table : Table) (s s2 : State) (saved : Option (List ℕ)) → Stands table s saved → IsSound s2 → HaveRules table (actions_of s2.sites) → s2.histories ≡ s.histories → Agrees s2.held (Some saved) → Stands table s2 saved
stands_with table s s2 saved stands is rules same agrees = record {
  sound = is;
  rules = rules;
  lawful = (subst (AreLawful table) (sym same) stands.lawful.0, stands.lawful.1);
  agrees = agrees;
}

same_state : (table : Table) (s s2 : State) (saved : Option (List ℕ)) → Stands table s saved → s2 ≡ s → Stands table s2 saved
same_state table s s2 saved stands e = subst (λ x. Stands table x saved) (sym e) stands

-- ---- a site is gathered
rules_with : (table : Table) (site : Site) (sites : List Site) → HaveRules table (actions_of (site ∷ [])) → HaveRules table (actions_of sites) → HaveRules table (actions_of (with_site site sites))
rules_with table site sites its theirs = by_name (bytes_eq site.name (codes "actionsite")) refl
  where
    by_name : (b : Bool) → bytes_eq site.name (codes "actionsite") ≡ b → HaveRules table (actions_of (with_site site sites))
    by_name true e =
        let own : site.name ≡ codes "actionsite" = (bytes_eq-Decides site.name (codes "actionsite")).0 e in
        subst (HaveRules table) (sym (actions_of_own site sites own)) (subst (HaveRules table) (actions_of_own site [] own) its)
    by_name false e = subst (HaveRules table) (sym (actions_of_other site sites e)) theirs

-- the rules of the gathered actions
pub gathered_rules : (table : Table) (site : Site) (answer : Gathered) (s s2 : State) → HaveRules table (actions_of (site ∷ [])) → HaveRules table (actions_of s.sites) → GathersSite s site answer s2 → HaveRules table (actions_of s2.sites)
gathered_rules table site gathered.New s s2 its theirs g = subst (λ (x : State). HaveRules table (actions_of x.sites)) (sym g.1) (rules_with table site s.sites its theirs)
gathered_rules table site (gathered.Older version) s s2 its theirs g = subst (λ (x : State). HaveRules table (actions_of x.sites)) (sym g.2) theirs
gathered_rules table site gathered.Memory s s2 its theirs g = subst (λ (x : State). HaveRules table (actions_of x.sites)) (sym g) theirs

-- what has the same rows and the same attempt
pub gathered_same : (site : Site) (answer : Gathered) (s s2 : State) → GathersSite s site answer s2 → (s2.histories ≡ s.histories) × (s2.held ≡ s.held)
gathered_same site gathered.New s s2 g = (ap (λ (x : State). x.histories) g.1, ap (λ (x : State). x.held) g.1)
gathered_same site (gathered.Older version) s s2 g = (ap (λ (x : State). x.histories) g.2, ap (λ (x : State). x.held) g.2)
gathered_same site gathered.Memory s s2 g = (ap (λ (x : State). x.histories) g, ap (λ (x : State). x.held) g)

pub gathered_lawful : (table : Table) (site : Site) (answer : Gathered) (s s2 : State) (told : Option (Option (List ℕ))) → GathersSite s site answer s2 → BothLawful table s told → BothLawful table s2 told
gathered_lawful table site answer s s2 told g lawful = (subst (AreLawful table) (sym (gathered_same site answer s s2 g).0) lawful.0, lawful.1)

gathered_stands : (table : Table) (site : Site) (answer : Gathered) (s s2 : State) (saved : Option (List ℕ)) → HaveRules table (actions_of (site ∷ [])) → Stands table s saved → IsSound s2 → GathersSite s site answer s2 → Stands table s2 saved
gathered_stands table site answer s s2 saved its stands is g =
    let same = gathered_same site answer s s2 g in
    stands_with table s s2 saved stands is (gathered_rules table site answer s s2 its stands.rules g) same.0 (subst (λ o. Agrees o (Some saved)) (sym same.1) stands.agrees)

-- ---- a verdict comes
dropped_stands : (table : Table) (seq : ℕ) (answer : Bool) (s s2 : State) (saved : Option (List ℕ)) → Stands table s saved → IsSound s2 → DropsState seq s answer s2 → Stands table s2 saved
dropped_stands table seq true s s2 saved stands is h =
    stands_with table s s2 saved stands is (subst (λ (x : State). HaveRules table (actions_of x.sites)) (sym h.1) stands.rules) (ap (λ (x : State). x.histories) h.1)
    (subst (λ (x : State). Agrees x.held (Some saved)) (sym h.1) stands.agrees)
dropped_stands table seq false s s2 saved stands is h = same_state table s s2 saved stands h.1

settled_stands : (table : Table) (seq : ℕ) (v : Verdict) (answer : Bool) (s s2 : State) (saved : Option (List ℕ)) → Stands table s saved → IsSound s2 → SettlesState seq v s answer s2 → Stands table s2 saved
settled_stands table seq verdict.Stored answer s s2 saved stands is h = dropped_stands table seq answer s s2 saved stands is h
settled_stands table seq verdict.Carried answer s s2 saved stands is h = same_state table s s2 saved stands h.1
settled_stands table seq (verdict.Conflict digest) answer s s2 saved stands is h = same_state table s s2 saved stands h.1
settled_stands table seq (verdict.Full limit) answer s s2 saved stands is h = same_state table s s2 saved stands h.1

-- ---- a file comes
taken_backed : (old new : PlainAttempt) (bytes : Option (List ℕ)) (answer : Bool) (saved : Option (List ℕ)) → Takes old bytes answer new → IsBacked old (Some saved) → IsBacked new (Some saved)
taken_backed old new bytes true saved takes backed = subst (λ (x : PlainAttempt). IsBacked x (Some saved)) (sym takes.0) backed
taken_backed old new bytes false saved takes backed = subst (λ (x : PlainAttempt). IsBacked x (Some saved)) (sym takes) backed

supplied_agrees : (old new : Option PlainAttempt) (digest : List ℕ) (bytes : Option (List ℕ)) (answer : Bool) (saved : Option (List ℕ)) → SuppliesHeld old digest bytes answer new → Agrees old (Some saved) → Agrees new (Some saved)
supplied_agrees None new digest bytes answer saved h agrees = subst (λ x. Agrees x (Some saved)) (sym h.1) tt
supplied_agrees (Some old) None digest bytes answer saved h agrees = absurd h
supplied_agrees (Some old) (Some new) digest bytes answer saved h agrees = taken_backed old new bytes answer saved h.1 agrees

-- ---- another agent is opened
opened_rows : (table : Table) (computer : List ℕ) (saved : Option (List ℕ)) (s2 : State) → AreLawfulIn table saved → IsAgentOf computer saved s2 → AreLawful table s2.histories
opened_rows table computer None s2 lawful of = subst (λ (x : State). AreLawful table x.histories) (sym of) (All-nil _)
opened_rows table computer (Some text) s2 lawful of =
    let what : Saved = of.0 in
    let read = of.1 in
    let own : IsTextOfSaved text what = (read.0, (read.1.0, read.1.1, refl), read.2) in
    subst (λ (x : State). AreLawful table x.histories) (sym of.2) (lawful what own)

-- an opened agent has no site and holds no attempt
pub opened_bare : (computer : List ℕ) (saved : Option (List ℕ)) (s2 : State) → IsAgentOf computer saved s2 → (s2.sites ≡ []) × (s2.held ≡ None)
opened_bare computer None s2 of = (ap (λ (x : State). x.sites) of, ap (λ (x : State). x.held) of)
opened_bare computer (Some text) s2 of = (ap (λ (x : State). x.sites) of.2, ap (λ (x : State). x.held) of.2)

opened_stands : (table : Table) (computer : List ℕ) (saved : Option (List ℕ)) (s2 : State) → Holds (Some saved) (AreLawfulIn table) → IsSound s2 → IsAgentOf computer saved s2 → Stands table s2 saved
opened_stands table computer saved s2 lawful is of =
    let bare = opened_bare computer saved s2 of in
    record {
      sound = is;
      rules = subst (λ l. HaveRules table (actions_of l)) (sym bare.0) (All-nil _);
      lawful = (opened_rows table computer saved s2 lawful of, lawful);
      agrees = subst (λ o. Agrees o (Some saved)) (sym bare.1) tt;
    }

-- the rows of an agent that is opened from a pocket that tells its text
opened_told : (table : Table) (computer : List ℕ) (found : Option (List ℕ)) (old new : Option (Option (List ℕ))) (s : State) → new ≡ old → IsSome old → Holds old (AreLawfulIn table) → Holds old (λ now. now ≡ found) → IsAgentOf computer found s → BothLawful table s new
opened_told table computer found None new s same some lawful is of = absurd (cc)
opened_told table computer found (Some now) new s same some lawful is of =
    (opened_rows table computer found s (subst (AreLawfulIn table) is lawful) of, subst (λ o. Holds o (AreLawfulIn table)) (sym same) lawful)

pub opens_lawful : (table : Table) (computer : List ℕ) (old : PocketView) (answer : Opened) (new : PocketView) → OpensFrom computer old answer new → IsSome old.saved → Holds old.saved (AreLawfulIn table) → OpensLawful table answer new.saved
opens_lawful table computer old (opened.Agent agent) new opens some lawful =
    opened_told table computer opens.opens.0 old.saved new.saved (shown_state agent) opens.saved some lawful opens.opens.1 opens.opens.2
opens_lawful table computer old (opened.BadPocket line) new opens some lawful = tt
opens_lawful table computer old opened.PocketFault new opens some lawful = tt
opens_lawful table computer old opened.Memory new opens some lawful = tt

-- ---- each call, and all of them
call_stands : Laws → (table : Table) (call : Call) (s s2 : State) (saved saved2 : Option (List ℕ)) → IsCall table call → Stands table s saved → IsSound s2 → Does call s saved s2 saved2 → Stands table s2 saved2
call_stands law table (gathers site) s s2 saved saved2 good stands is does =
    subst (Stands table s2) (sym does.2) (gathered_stands table site does.0 s s2 saved good.1 stands is does.1)
call_stands law table (turns at) s s2 saved saved2 good stands is does =
    let made = does.3 in
    let d = made.before in
    let d2 = made.after in
    record {
      sound = is;
      rules = subst (λ x. HaveRules table (actions_of x)) (sym (turn_sites at s s2 d d2 does.0 made.turn)) stands.rules;
      lawful = subst (BothLawful table s2) made.saved_after (turn_lawful law table at good s s2 d d2 does.0 made.turn stands.sound is stands.rules (subst (BothLawful table s) (sym made.saved_before) stands.lawful));
      agrees = subst (Agrees s2.held) made.saved_after (turn_agrees law.histories at good s s2 d d2 does.0 made.turn stands.sound is (subst (Agrees s.held) (sym made.saved_before) stands.agrees));
    }
call_stands law table (supplies digest bytes) s s2 saved saved2 good stands is does =
    let h = does.1 in
    subst (Stands table s2) (sym does.2)
    (stands_with table s s2 saved stands is (subst (λ (x : State). HaveRules table (actions_of x.sites)) (sym h.0) stands.rules) (ap (λ (x : State). x.histories) h.0)
    (supplied_agrees s.held s2.held digest bytes does.0 saved h.1 stands.agrees))
call_stands law table (settles seq v) s s2 saved saved2 good stands is does =
    subst (Stands table s2) (sym does.2) (settled_stands table seq v does.0 s s2 saved stands is does.1)
call_stands law table restarts s s2 saved saved2 good stands is does =
    let opens = does.1 in
    let agent = subst (λ x. IsAgentOf s.computer x (shown_state does.0)) (sym opens.1) opens.2 in
    subst (Stands table s2) (sym does.3) (opened_stands table s.computer saved s2 stands.lawful.1 is (subst (IsAgentOf s.computer saved) (sym does.2) agent))

calls_stand : Laws → (table : Table) (calls : List Call) (s s2 : State) (saved saved2 : Option (List ℕ)) → All (IsCall table) calls → Stands table s saved → DoAll calls s saved s2 saved2 → Stands table s2 saved2
calls_stand law table [] s s2 saved saved2 good stands done = subst (Stands table s2) (sym done.1) (same_state table s s2 saved stands done.0)
calls_stand law table (call ∷ calls) s s2 saved saved2 good stands done =
    calls_stand law table calls done.0 s2 done.1 saved2 (All-tail (IsCall table) call calls good)
    (call_stands law table call s done.0 saved done.1 (All-head (IsCall table) call calls good) stands done.3 done.2) done.4

pub calls_lawful : Laws → (table : Table) (calls : List Call) (s s2 : State) (saved saved2 : Option (List ℕ)) → All (IsCall table) calls → IsSound s → HaveRules table (actions_of s.sites)
    → BothLawful table s (Some saved) → Agrees s.held (Some saved) → DoAll calls s saved s2 saved2 → BothLawful table s2 (Some saved2) × Agrees s2.held (Some saved2)
calls_lawful law table calls s s2 saved saved2 good is rules lawful agrees done =
    let end = calls_stand law table calls s s2 saved saved2 good (record { sound = is; rules = rules; lawful = lawful; agrees = agrees }) done in
    (end.lawful, end.agrees)

-- ---- an agent that begins with nothing
new_sound : (computer : List ℕ) → IsName computer → IsSound (new_state computer)
new_sound computer name = record {
  saved = record {
    computer = name;
    next = (omega arith, omega arith);
    histories = record { ascending = λ k lt. omega (arith, lt); good = All-nil _ };
    reports = record { few = omega arith; good = All-nil _; own = All-nil _; ascending = λ k lt. omega (arith, lt); below = All-nil _ };
  };
  shown = omega arith;
  held = tt;
  sites = tt;
}

-- what the law on calls says of such an agent
pub begins_lawful : ((table : Table) (calls : List Call) (s s2 : State) (saved saved2 : Option (List ℕ)) → All (IsCall table) calls → IsSound s → HaveRules table (actions_of s.sites)
    → BothLawful table s (Some saved) → Agrees s.held (Some saved) → DoAll calls s saved s2 saved2 → BothLawful table s2 (Some saved2) × Agrees s2.held (Some saved2))
    → (table : Table) (calls : List Call) (computer : List ℕ) (s : State) (saved : Option (List ℕ)) → IsName computer → All (IsCall table) calls → DoAll calls (new_state computer) None s saved → AreLawful table s.histories
begins_lawful law table calls computer s saved name good done =
    (law table calls (new_state computer) s None saved good (new_sound computer name) (All-nil _) (All-nil _, tt) tt done).0.0
