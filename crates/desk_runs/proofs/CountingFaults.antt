-- A run of an agent is calls of it, one after another, whose turns tell at least as many faults of the machine as its lines do.
use Rattle.std.proofs.Common.{◌≡◌, ◌⊎◌, ◌≤◌, ℕ, ◌+◌, ℤ, Bool, true, false, List, [], ◌∷◌, ◌++◌, None, Some, Result, Ok, Err, inl, inr, refl, sym, ap, ◌∙◌, subst, arith}
use Rattle.std.specs.Prelude.{is_some, nat_lt}
use Rattle.std.specs.declared.option.Option.{Option}
use Rattle.desk_base.specs.declared.clock.Told.TheVariants as told
use Rattle.bf_machine.specs.Rises.{RoseBy}
use Rattle.fix_site.specs.declared.site.Site.{Site}
use Rattle.report_text.specs.declared.report.Report.{Report}
use Rattle.script_run.specs.Asking.{When}
use Rattle.server_text.specs.declared.site_versions.SiteVersion.{SiteVersion}
use Rattle.agent_text.specs.Pockets.{Holds}
use Rattle.agent_state.specs.Changes.{SuppliesState}
use Rattle.agent_state.specs.States.{State}
use Rattle.agent_core.specs.Agents.{AgentState, shown_state}
use Rattle.agent_core.specs.Calls.{Call, Point, gathers, point, restarts, settles, supplies, turns}
use Rattle.agent_core.specs.Devices.{Devices}
use Rattle.agent_core.specs.Opens.{OpensAgent}
use Rattle.agent_core.specs.ToldFaults.{DoAllCounted, fault_told, faults_told}
use Rattle.agent_core.specs.Turns.{Turn}
use Rattle.agent_core.specs.declared.opening.Opened.TheVariants as opened
use Rattle.agent_core.specs.declared.turned.Turned.{Turned}
use Rattle.agent_core.specs.declared.turned.Turned.TheVariants as of_turn
use Rattle.turn_lines.specs.Givers.{GiverView}
use Rattle.turn_lines.specs.TurnsWithFiles.{Closes, Fetch, FetchesAll, any_begun, with_begun}
use Rattle.desk_rounds.specs.declared.agent_rounds.Rounder.{Rounder}
use Rattle.desk_rounds.specs.declared.agent_rounds.RoundEnd.{RoundEnd}
use Rattle.desk_rounds.specs.declared.agent_rounds.RoundEnd.TheVariants as end
use Rattle.desk_rounds.specs.declared.asking.Miss.{Miss}
use Rattle.desk_rounds.specs.declared.asking.Miss.TheVariants as miss
use Rattle.desk_rounds.specs.declared.judged.Judged.{Judged}
use Rattle.desk_rounds.specs.declared.part.Next.{Next}
use Rattle.desk_rounds.specs.declared.part.Next.TheVariants as next
use Rattle.desk_rounds.specs.AgentRounds.{AgentPoint, AgentRound, Ending, EndsQuietly, GathersFirst, IsPrinted, OpensFirst, PrintsTurns, RestOfRound, SaysBefore, TakesTurn, Then as ThenPart, TurnsAt, WholeRound, Within, lines_of_turns, missed_lines, short_end}
use Rattle.desk_rounds.specs.Clients.{At, agent_client, at, verdict_of}
use Rattle.desk_rounds.specs.Files.{FileSource, GivesFromLink}
use Rattle.desk_rounds.specs.Gathering.{AsksWhere, GathersAll, GathersOne, KeepsCame, version_at}
use Rattle.desk_rounds.specs.Lines.{Line, miss_lines, turned}
use Rattle.desk_rounds.specs.Parts.{AfterItem, DoesEach, Part}
use Rattle.desk_rounds.specs.Posting.{PostsAll, PostsOne, SettlesCame}
use Rattle.desk_rounds.specs.Ways.{switched, way}
use Rattle.desk_rounds.specs.declared.way.Upstreams.{Upstreams}
use Rattle.desk_runs.specs.AgentRuns.{AgentRun, Begun, Runs, Then}
use Rattle.desk_runs.specs.AgentSteps.{AgentScene}
use Rattle.desk_runs.specs.Counting.{WasOpened, told_in, told_of_rounds, turn_fault_told}
use Rattle.desk_runs.proofs.ShownTurns.{Has, shown, turn_shown}
use Rattle.desk_runs.proofs.CountingRounds.{Counts, asked_silent, fewer, gathers_all, no_count, no_one, none_rises, of_link, posts_all, switched_silent, told_append}

-- how many faults of the machine lines tell
abbrev faults_in : List Line → ℕ
faults_in lines = told_in turn_fault_told lines

-- ---- calls, one after another
calls_then : (calls more : List Call) (a b c : Point) (answers others : List Turned) → DoAllCounted calls a answers b → DoAllCounted more b others c
    → DoAllCounted (calls ++ more) a (answers ++ others) c
calls_then [] more a b c answers others (none, same) second =
    let P : List Turned → Type 0 = λ l. DoAllCounted more a (l ++ others) c in
    let Q : Point → Type 0 = λ p. DoAllCounted more p others c in
    subst P (sym none) (subst Q same second)
calls_then (turns at ∷ calls) more a b c [] others first second = absurd first
calls_then (turns at ∷ calls) more a b c (answer ∷ answers) others (mid, made, rest) second = (mid, made, calls_then calls more mid b c answers others rest second)
calls_then (gathers site ∷ calls) more a b c answers others (mid, does, rest) second = (mid, does, calls_then calls more mid b c answers others rest second)
calls_then (supplies digest bytes ∷ calls) more a b c answers others (mid, does, rest) second = (mid, does, calls_then calls more mid b c answers others rest second)
calls_then (settles seq verdict ∷ calls) more a b c answers others (mid, does, rest) second = (mid, does, calls_then calls more mid b c answers others rest second)
calls_then (restarts ∷ calls) more a b c answers others (mid, does, rest) second = (mid, does, calls_then calls more mid b c answers others rest second)

told_then : (xs ys : List Turned) → faults_told (xs ++ ys) ≡ faults_told xs + faults_told ys
told_then [] ys = omega arith
told_then (x ∷ xs) ys = let more = told_then xs ys in omega (arith, more)

-- from one point to another by calls whose turns tell at least so many faults
record Made (old : Point) (told : ℕ) (new : Point) : Type 0 where
  calls : List Call
  answers : List Turned
  done : DoAllCounted calls old answers new
  few : told ≤ faults_told answers

made_none : (old new : Point) → new ≡ old → Made old 0 new
made_none old new same = record { calls = []; answers = []; done = (refl, same); few = omega arith }

made_both : (a b c : Point) (m n : ℕ) → Made a m b → Made b n c → Made a (m + n) c
made_both a b c m n first second =
    let joined = told_then first.answers second.answers in
    let one = first.few in
    let other = second.few in
    record {
      calls = first.calls ++ second.calls;
      answers = first.answers ++ second.answers;
      done = calls_then first.calls second.calls a b c first.answers second.answers first.done second.done;
      few = omega (arith, joined, one, other);
    }

made_less : (a b : Point) (m n : ℕ) → m ≤ n → Made a n b → Made a m b
made_less a b m n less made =
    let few = made.few in
    record { calls = made.calls; answers = made.answers; done = made.done; few = omega (arith, less, few) }

-- ---- parts of the agent and its link
-- a part is calls beside the machine and the pocket
abbrev Walks : Part (At State) → Type 0
Walks part = (old : At State) (then : Next) (lines : List Line) (new : At State) → part old then lines new → (saved : Option (List ℕ)) (faults : ℕ)
    → Made (point old.client saved faults) 0 (point new.client saved faults)

same_state : (old new : State) (saved : Option (List ℕ)) (faults : ℕ) → new ≡ old → Made (point old saved faults) 0 (point new saved faults)
same_state old new saved faults same = made_none (point old saved faults) (point new saved faults) (ap (λ (s : State). point s saved faults) same)

same_at : (old new : At State) (saved : Option (List ℕ)) (faults : ℕ) → new ≡ old → Made (point old.client saved faults) 0 (point new.client saved faults)
same_at old new saved faults same = same_state old.client new.client saved faults (ap (λ (a : At State). a.client) same)

both_parts : (a b c : State) (saved : Option (List ℕ)) (faults : ℕ) → Made (point a saved faults) 0 (point b saved faults) → Made (point b saved faults) 0 (point c saved faults)
    → Made (point a saved faults) 0 (point c saved faults)
both_parts a b c saved faults first second = made_both (point a saved faults) (point b saved faults) (point c saved faults) 0 0 first second

after_item : (one : Next) (said : List Line) (rest : Part (At State)) (old between : At State) (then : Next) (lines : List Line) (new : At State) (saved : Option (List ℕ)) (faults : ℕ)
    → Walks rest → Made (point old.client saved faults) 0 (point between.client saved faults) → AfterItem one said rest between then lines new
    → Made (point old.client saved faults) 0 (point new.client saved faults)
after_item next.Item said rest old between then lines new saved faults walks first (more, goes, is) =
    both_parts old.client between.client new.client saved faults first (walks between then more new goes saved faults)
after_item next.Part said rest old between then lines new saved faults walks first after =
    both_parts old.client between.client new.client saved faults first (same_at between new saved faults after.2)
after_item next.Memory said rest old between then lines new saved faults walks first after =
    both_parts old.client between.client new.client saved faults first (same_at between new saved faults after.2)

does_each : {T : Type 0} (does : T → Part (At State)) (items : List T) → ((item : T) → Walks (does item)) → Walks (DoesEach does items)
does_each does [] each old then lines new it saved faults = same_at old new saved faults it.2
does_each does (item ∷ items) each old then lines new (one, said, between, first, after) saved faults =
    after_item one said (DoesEach does items) old between then lines new saved faults (does_each does items each) (each item old one said between first saved faults) after

keeps_walk : (came : Result (Option Site) Miss) (old : State) (then : Next) (lines : List Line) (new : State) → KeepsCame agent_client came old then lines new
    → (saved : Option (List ℕ)) (faults : ℕ) → Made (point old saved faults) 0 (point new saved faults)
keeps_walk (Ok (Some site)) old then lines new (answer, keeps, goes) saved faults =
    record { calls = gathers site ∷ []; answers = []; done = (point new saved faults, ((answer, keeps, refl), refl), (refl, refl)); few = omega arith }
keeps_walk (Ok None) old then lines new (goes, same) saved faults = same_state old new saved faults same
keeps_walk (Err why) old then lines new (by, same) saved faults = same_state old new saved faults same

asks_where : (newer : Bool) (name : List ℕ) → Walks (AsksWhere agent_client newer name)
asks_where true name old then lines new (came, between, asks, (more, (keeps, stays), is)) saved faults = keeps_walk came old.client then more new.client keeps saved faults
asks_where false name old then lines new (goes, same) saved faults = same_at old new saved faults same

gathers_one : (site : SiteVersion) → Walks (GathersOne agent_client site)
gathers_one site old then lines new it saved faults =
    asks_where (nat_lt (version_at agent_client old.client site.name) site.version) site.name old then lines new it saved faults

gathering_walks : Walks (GathersAll agent_client)
gathering_walks old then lines new (Ok sites, between, asks, (more, listed, is)) saved faults =
    does_each (GathersOne agent_client) sites gathers_one (at old.client between) then more new listed saved faults
gathering_walks old then lines new (Err why, between, asks, (more, (by, same), is)) saved faults = same_at (at old.client between) new saved faults same

settles_walk : (report : Report) (came : Result Judged Miss) (old : State) (then : Next) (lines : List Line) (new : State) → SettlesCame agent_client report came old then lines new
    → (saved : Option (List ℕ)) (faults : ℕ) → Made (point old saved faults) 0 (point new saved faults)
settles_walk report (Ok judged) old then lines new (inl (goes, (dropped, settled))) saved faults =
    record { calls = settles report.seq (verdict_of judged) ∷ []; answers = []; done = (point new saved faults, ((dropped, settled, refl), refl), (refl, refl)); few = omega arith }
settles_walk report (Ok judged) old then lines new (inr (goes, same)) saved faults = same_state old new saved faults same
settles_walk report (Err why) old then lines new (by, same) saved faults = same_state old new saved faults same

posts_one : (report : Report) → Walks (PostsOne agent_client report)
posts_one report old then lines new (came, between, asks, (more, (settled, stays), is)) saved faults = settles_walk report came old.client then more new.client settled saved faults

posting_walks : Walks (PostsAll agent_client)
posting_walks old then lines new it saved faults = does_each (PostsOne agent_client) (agent_client.reports old.client) posts_one old then lines new it saved faults

-- no line of these parts tells a fault of the machine
miss_tells : (why : Miss) → faults_in (miss_lines why) ≤ no_one why
miss_tells miss.NoAnswer = omega arith
miss_tells miss.BadAnswer = omega arith
miss_tells miss.Memory = omega arith

gathering_tells : Counts turn_fault_told (of_link no_count) (GathersAll agent_client)
gathering_tells = gathers_all turn_fault_told no_one no_count miss_tells (asked_silent turn_fault_told refl) agent_client

posting_tells : Counts turn_fault_told (of_link no_count) (PostsAll agent_client)
posting_tells = posts_all turn_fault_told no_one no_count miss_tells (asked_silent turn_fault_told refl) agent_client

-- ---- the agent with its devices
-- from one state and what the devices tell to others: whatever text the pocket has, where it tells none, it has some text then
record CarriedFrom (s : State) (d : Devices) (told : ℕ) (s2 : State) (d2 : Devices) (saved : Option (List ℕ)) : Type 0 where
  saved2 : Option (List ℕ)
  has : Has saved2 d2
  made : Made (point s saved d.machine.faults) told (point s2 saved2 d2.machine.faults)

abbrev Carried : State → Devices → ℕ → State → Devices → Type 0
Carried s d told s2 d2 = (saved : Option (List ℕ)) → Has saved d → CarriedFrom s d told s2 d2 saved

carried_none : (s : State) (d : Devices) → Carried s d 0 s d
carried_none s d saved has = record { saved2 = saved; has = has; made = made_none (point s saved d.machine.faults) (point s saved d.machine.faults) refl }

carried_both : (s s2 s3 : State) (d d2 d3 : Devices) (m n : ℕ) → Carried s d m s2 d2 → Carried s2 d2 n s3 d3 → Carried s d (m + n) s3 d3
carried_both s s2 s3 d d2 d3 m n first second saved has =
    let one = first saved has in
    let other = second one.saved2 one.has in
    record {
      saved2 = other.saved2;
      has = other.has;
      made = made_both (point s saved d.machine.faults) (point s2 one.saved2 d2.machine.faults) (point s3 other.saved2 d3.machine.faults) m n one.made other.made;
    }

carried_less : (s s2 : State) (d d2 : Devices) (m n : ℕ) → m ≤ n → Carried s d n s2 d2 → Carried s d m s2 d2
carried_less s s2 d d2 m n less it saved has =
    let one = it saved has in
    record { saved2 = one.saved2; has = one.has; made = made_less (point s saved d.machine.faults) (point s2 one.saved2 d2.machine.faults) m n less one.made }

one_turn : (at : When) (s : State) (d : Devices) (answer : Turned) (s2 : State) (d2 : Devices) → Turn at s d answer s2 d2 → Carried s d (fault_told answer) s2 d2
one_turn at s d answer s2 d2 turn saved has =
    let it = turn_shown at answer s2 d2 s saved d has turn in
    record {
      saved2 = it.0;
      has = it.1;
      made = record {
        calls = turns at ∷ [];
        answers = answer ∷ [];
        done = (
          point s2 it.0 d2.machine.faults,
          record { before = shown saved d; after = shown it.0 d2; turn = it.2; saved_before = refl; saved_after = refl; faults_before = refl; faults_after = refl },
          (refl, refl),
        );
        few = omega arith;
      };
    }

one_supply : (digest : List ℕ) (bytes : Option (List ℕ)) (s s2 : State) (d : Devices) → SuppliesState s digest bytes true s2 → Carried s d 0 s2 d
one_supply digest bytes s s2 d supplied saved has = record {
  saved2 = saved;
  has = has;
  made = record { calls = supplies digest bytes ∷ []; answers = []; done = (point s2 saved d.machine.faults, ((true, supplied, refl), refl), (refl, refl)); few = omega arith };
}

fetches : (at : When) (s : State) (d : Devices) (them : List Fetch) (s2 : State) (d2 : Devices) → FetchesAll at s d them s2 d2 → Carried s d 0 s2 d2
fetches at s d [] s2 d2 (same, as_it_was) =
    let P : State → Type 0 = λ x. Carried s d 0 x d in
    let Q : Devices → Type 0 = λ x. Carried s d 0 s2 x in
    subst Q (sym as_it_was) (subst P (sym same) (carried_none s d))
fetches at s d (fetch ∷ them) s2 d2 (between, then, one, more) =
    let turn = one_turn at s d (of_turn.Wants fetch.id fetch.began fetch.digest) one.turned then one.turns in
    let supply = one_supply fetch.digest fetch.bytes one.turned between then one.supplies in
    let first = carried_both s one.turned between d then then 0 0 turn supply in
    carried_both s between s2 d then d2 0 0 first (fetches at between then them s2 d2 more)

-- the answer of turns tells what the last of them did
begun_tells : (begun : Bool) (last : Turned) → fault_told (with_begun begun last) ≡ fault_told last
begun_tells begun of_turn.Idle = refl
begun_tells begun (of_turn.Interrupted id) = refl
begun_tells begun (of_turn.Held id began component line) = refl
begun_tells begun (of_turn.Wants id began digest) = refl
begun_tells begun (of_turn.Ended id began outcome None) = refl
begun_tells begun (of_turn.Ended id began outcome (Some fail)) = refl
begun_tells begun of_turn.MachineFault = refl
begun_tells begun of_turn.PocketFault = refl
begun_tells begun of_turn.Memory = refl

same_answer : (answer other : Turned) → answer ≡ other → fault_told answer ≤ fault_told other
same_answer answer other is = let e = ap fault_told is in omega (arith, e)

closes_tells : (last : Turned) (g : GiverView FileSource) (answer : Turned) (g2 : GiverView FileSource) → Closes GivesFromLink last g answer g2 → fault_told answer ≤ fault_told last
closes_tells of_turn.Idle g answer g2 (same, is) = same_answer answer of_turn.Idle is
closes_tells (of_turn.Interrupted id) g answer g2 (same, is) = same_answer answer (of_turn.Interrupted id) is
closes_tells (of_turn.Held id began component line) g answer g2 (same, is) = same_answer answer (of_turn.Held id began component line) is
closes_tells (of_turn.Wants id began digest) g answer g2 (inl (gives, is)) = same_answer answer (of_turn.Wants id began digest) is
closes_tells (of_turn.Wants id began digest) g answer g2 (inr (gives, is)) = same_answer answer of_turn.Memory is
closes_tells (of_turn.Ended id began outcome fail) g answer g2 (same, is) = same_answer answer (of_turn.Ended id began outcome fail) is
closes_tells of_turn.MachineFault g answer g2 (same, is) = same_answer answer of_turn.MachineFault is
closes_tells of_turn.PocketFault g answer g2 (same, is) = same_answer answer of_turn.PocketFault is
closes_tells of_turn.Memory g answer g2 (same, is) = same_answer answer of_turn.Memory is

-- what is printed of turns tells what their answer does
missed_tells : (missed : Option Miss) → faults_in (missed_lines missed) ≡ 0
missed_tells None = refl
missed_tells (Some miss.NoAnswer) = omega arith
missed_tells (Some miss.BadAnswer) = omega arith
missed_tells (Some miss.Memory) = refl

whole_tells : (rounder : Rounder) (moment : ℤ) (answer : Turned) (missed : Option Miss) → faults_in (lines_of_turns rounder moment answer missed) ≡ fault_told answer
whole_tells rounder moment answer missed =
    let front = missed_tells missed in
    let joined = told_append turn_fault_told (missed_lines missed) (turned rounder.name moment answer ∷ []) in
    omega (arith, front, joined)

quiet_tells : (wanted ended : RoundEnd) (answer : Turned) (lines : List Line) → EndsQuietly wanted ended lines → faults_in lines ≤ fault_told answer
quiet_tells wanted ended answer lines quiet = let e = ap faults_in quiet.quiet in omega (arith, e)

either_tells : (rounder : Rounder) (moment : ℤ) (answer : Turned) (missed : Option Miss) (ended : RoundEnd) (lines : List Line)
    → IsPrinted (lines_of_turns rounder moment answer missed) ended lines ⊎ EndsQuietly end.Memory ended lines → faults_in lines ≤ fault_told answer
either_tells rounder moment answer missed ended lines (inl printed) =
    let e = ap faults_in printed.lines_are ∙ whole_tells rounder moment answer missed in omega (arith, e)
either_tells rounder moment answer missed ended lines (inr quiet) = quiet_tells end.Memory ended answer lines quiet

prints_tell : (rounder : Rounder) (moment : ℤ) (answer : Turned) (missed : Option Miss) (ended : RoundEnd) (lines : List Line) → PrintsTurns rounder moment answer missed ended lines
    → faults_in lines ≤ fault_told answer
prints_tell rounder moment of_turn.Idle missed ended lines it = either_tells rounder moment of_turn.Idle missed ended lines it
prints_tell rounder moment (of_turn.Interrupted id) missed ended lines it = either_tells rounder moment (of_turn.Interrupted id) missed ended lines it
prints_tell rounder moment (of_turn.Held id began component line) missed ended lines it = either_tells rounder moment (of_turn.Held id began component line) missed ended lines it
prints_tell rounder moment (of_turn.Wants id began digest) missed ended lines it = either_tells rounder moment (of_turn.Wants id began digest) missed ended lines it
prints_tell rounder moment (of_turn.Ended id began outcome fail) missed ended lines it = either_tells rounder moment (of_turn.Ended id began outcome fail) missed ended lines it
prints_tell rounder moment of_turn.MachineFault missed ended lines it = either_tells rounder moment of_turn.MachineFault missed ended lines it
prints_tell rounder moment of_turn.Memory missed ended lines quiet = quiet_tells end.Memory ended of_turn.Memory lines quiet
prints_tell rounder moment of_turn.PocketFault missed ended lines quiet = quiet_tells end.PocketFault ended of_turn.PocketFault lines quiet

says_tell : (rounder : Rounder) (moment : ℤ) (said : List Line) (answer : Turned) (missed : Option Miss) (ended : RoundEnd) (lines : List Line) → faults_in said ≡ 0
    → SaysBefore said answer (PrintsTurns rounder moment answer missed) ended lines → faults_in lines ≤ fault_told answer
says_tell rounder moment [] answer missed ended lines none prints = prints_tell rounder moment answer missed ended lines prints
says_tell rounder moment (line ∷ said) answer missed ended lines none (inl (more, prints, is)) =
    let e = ap faults_in is ∙ told_append turn_fault_told (line ∷ said) more in
    let few = prints_tell rounder moment answer missed ended more prints in
    omega (arith, e, few, none)
says_tell rounder moment (line ∷ said) answer missed ended lines none (inr quiet) = quiet_tells (short_end answer) ended answer lines quiet

-- ---- the round
abbrev CarriedTo : AgentPoint → List Line → AgentPoint → Type 0
CarriedTo old lines new = Carried old.at.client old.devices (faults_in lines) new.at.client new.devices

abbrev AreCarried : Ending → Type 0
AreCarried part = (old : AgentPoint) (ended : RoundEnd) (lines : List Line) (new : AgentPoint) → part old ended lines new → CarriedTo old lines new

walked : (part : Part (At State)) → Walks part → (old : AgentPoint) (then : Next) (lines : List Line) (after : At State) → part old.at then lines after → Carried old.at.client old.devices 0 after.client old.devices
walked part walks old then lines after did saved has = record { saved2 = saved; has = has; made = walks old.at then lines after did saved old.devices.machine.faults }

within : (part : Part (At State)) → Walks part → Counts turn_fault_told (of_link no_count) part → AreCarried (Within part)
within part walks quiet old ended lines new (then, after, did, ended_is, new_is) =
    let none = none_rises (faults_in lines) (quiet old.at then lines after did) in
    let To : AgentPoint → Type 0 = λ p. CarriedTo old lines p in
    subst To (sym new_is) (carried_less old.at.client after.client old.devices old.devices (faults_in lines) 0 (omega (arith, none)) (walked part walks old then lines after did))

both : (old between new : AgentPoint) (said more lines : List Line) → lines ≡ said ++ more → CarriedTo old said between → CarriedTo between more new → CarriedTo old lines new
both old between new said more lines is first second =
    let e = ap faults_in is ∙ told_append turn_fault_told said more in
    carried_less old.at.client new.at.client old.devices new.devices (faults_in lines) (faults_in said + faults_in more) (omega (arith, e))
    (carried_both old.at.client between.at.client new.at.client old.devices between.devices new.devices (faults_in said) (faults_in more) first second)

ended_so : (old between new : AgentPoint) (said lines : List Line) → lines ≡ said → new ≡ between → CarriedTo old said between → CarriedTo old lines new
ended_so old between new said lines is same it =
    let P : List Line → Type 0 = λ l. CarriedTo old l between in
    let Q : AgentPoint → Type 0 = λ p. CarriedTo old lines p in
    subst Q (sym same) (subst P (sym is) it)

then_carried : (First Second : Ending) → AreCarried First → AreCarried Second → AreCarried (ThenPart First Second)
then_carried First Second f s old ended lines new (end.Done, said, between, first, (more, second, is)) =
    both old between new said more lines is (f old end.Done said between first) (s between ended more new second)
then_carried First Second f s old ended lines new (end.ClockFault, said, between, first, (a, b, c)) = ended_so old between new said lines b c (f old end.ClockFault said between first)
then_carried First Second f s old ended lines new (end.PocketFault, said, between, first, (a, b, c)) = ended_so old between new said lines b c (f old end.PocketFault said between first)
then_carried First Second f s old ended lines new (end.Memory, said, between, first, (a, b, c)) = ended_so old between new said lines b c (f old end.Memory said between first)

turns_carried : (rounder : Rounder) (moment : ℤ) → AreCarried (TurnsAt rounder moment)
turns_carried rounder moment old ended lines new (answer, agent, after, files, all, prints, new_is) =
    let made = all.turns in
    let time : When = record { moment = moment; offset = rounder.offset } in
    let before = fetches time old.at.client old.devices made.fetches made.between made.devices made.fetched in
    let last = one_turn time made.between made.devices made.last agent after made.turns in
    let whole = carried_both old.at.client made.between agent old.devices made.devices after 0 (fault_told made.last) before last in
    let said = switched old.at.way files.source.way in
    let none = switched_silent turn_fault_told refl (is_some old.at.way.second) files.source.way.second in
    let printed = says_tell rounder moment said answer files.source.missed ended lines none prints in
    let closed = closes_tells all.last all.told answer files all.closes in
    let began = ap fault_told made.answers ∙ begun_tells (any_begun made.fetches) made.last in
    let To : AgentPoint → Type 0 = λ p. CarriedTo old lines p in
    subst To (sym new_is) (carried_less old.at.client agent old.devices after (faults_in lines) (0 + fault_told made.last) (omega (arith, printed, closed, began)) whole)

turn_carried : (rounder : Rounder) → AreCarried (TakesTurn rounder)
turn_carried rounder old ended lines new (told.Moment moment, clock, asks, all) = turns_carried rounder moment (record old { clock = clock }) ended lines new all
turn_carried rounder old ended lines new (told.Failed, clock, asks, (quiet, new_is)) =
    let none = ap faults_in quiet.quiet in
    let To : AgentPoint → Type 0 = λ p. CarriedTo old lines p in
    subst To (sym new_is) (carried_less old.at.client old.at.client old.devices old.devices (faults_in lines) 0 (omega (arith, none)) (carried_none old.at.client old.devices))

-- the agent and its devices stay what they are
quiet_carried : (old between new : AgentPoint) (wanted ended : RoundEnd) (lines : List Line) → EndsQuietly wanted ended lines → new ≡ between → CarriedTo old [] between → CarriedTo old lines new
quiet_carried old between new wanted ended lines quiet same it = ended_so old between new [] lines quiet.quiet same it

opens_carried : (upstreams : Option Upstreams) → AreCarried (OpensFirst upstreams)
opens_carried None old ended lines new (quiet, same) = quiet_carried old old new end.Done ended lines quiet same (carried_none old.at.client old.devices)
opens_carried (Some two) old ended lines new (inl (quiet, same)) =
    let opened : AgentPoint = record old { at = at old.at.client (way (record old.at.way.link { upstream = Some two.first }) (Some two.second)) } in
    quiet_carried old opened new end.Done ended lines quiet same (carried_none old.at.client old.devices)
opens_carried (Some two) old ended lines new (inr (quiet, same)) = quiet_carried old old new end.Memory ended lines quiet same (carried_none old.at.client old.devices)

whole_carried : (rounder : Rounder) → AreCarried (WholeRound rounder)
whole_carried rounder =
    then_carried (OpensFirst rounder.upstreams) (GathersFirst rounder) (opens_carried rounder.upstreams)
    (then_carried (Within (GathersAll agent_client)) (RestOfRound rounder) (within (GathersAll agent_client) gathering_walks gathering_tells)
    (then_carried (TakesTurn rounder) (Within (PostsAll agent_client)) (turn_carried rounder) (within (PostsAll agent_client) posting_walks posting_tells)))

round_carried : (rounder : Rounder) → AreCarried (AgentRound rounder)
round_carried rounder old ended lines new (last, did, is) =
    let To : AgentPoint → Type 0 = λ p. CarriedTo old lines p in
    let carried : CarriedTo old lines last = whole_carried rounder old ended lines last did in
    subst To (sym is) carried

-- ---- runs
abbrev told_of : AgentRun → ℕ
told_of run = told_of_rounds turn_fault_told run

runs_carried : (rounder : Rounder) (old new : AgentScene) (run : AgentRun) → Runs rounder old run new
    → Carried old.point.at.client old.point.devices (told_of run) new.point.at.client new.point.devices
runs_carried rounder old new Begun same =
    let To : AgentScene → Type 0 = λ s. Carried old.point.at.client old.point.devices 0 s.point.at.client s.point.devices in
    subst To (sym same) (carried_none old.point.at.client old.point.devices)
runs_carried rounder old new (Then run lines) (mid, runs, round) =
    carried_both old.point.at.client mid.point.at.client new.point.at.client old.point.devices mid.point.devices new.point.devices (told_of run) (faults_in lines)
    (runs_carried rounder old mid run runs) (round_carried rounder mid.point end.Done lines new.point round.round)

-- the text that a pocket has, where it tells one
abbrev text_in : Option (Option (List ℕ)) → Option (List ℕ)
text_in None = None
text_in (Some saved) = saved

has_some : (o : Option (Option (List ℕ))) → Holds o (λ now. now ≡ text_in o)
has_some None = tt
has_some (Some saved) = refl

-- the law of faults that turns tell
abbrev pub CallsCounted : Type 0
CallsCounted = (calls : List Call) (computer : List ℕ) (told : Option (Option (List ℕ))) (agent : AgentState) (old new : Point) (answers : List Turned)
    → OpensAgent computer told (opened.Agent agent) → old.state ≡ shown_state agent → DoAllCounted calls old answers new → RoseBy (faults_told answers) old.faults new.faults

-- at least as many faults of the machine were counted as lines of whole rounds tell
pub attempts_counted : CallsCounted → (rounder : Rounder) (computer : List ℕ) (old new : AgentScene) (run : AgentRun) → WasOpened computer old → Runs rounder old run new
    → RoseBy (told_of run) old.point.devices.machine.faults new.point.devices.machine.faults
attempts_counted law rounder computer old new run was runs =
    let saved = text_in old.point.devices.pocket.saved in
    let all = runs_carried rounder old new run runs saved (has_some old.point.devices.pocket.saved) in
    let made = all.made in
    let first = point old.point.at.client saved old.point.devices.machine.faults in
    let last = point new.point.at.client all.saved2 new.point.devices.machine.faults in
    fewer (told_of run) (faults_told made.answers) old.point.devices.machine.faults new.point.devices.machine.faults made.few
    (law made.calls computer was.told was.agent first last made.answers was.opens was.state made.done)
