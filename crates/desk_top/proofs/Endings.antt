-- How a command that reads its input and asks no device ends the run of its words: what was done, and which status comes.
use Rattle.std.proofs.Common.{◌≡◌, ◌≢◌, ◌⊎◌, ℕ, ◌≤◌, ◌<◌, arith, List, ◌++◌, length, None, Some, inl, inr, refl, sym, ap, subst, ◌∙◌, append-nil}
use Rattle.std.specs.Prelude.{⊤, IsSomeAnd}
use Rattle.std.specs.Io.KnownBytes.{Appends, Consumes, IsAtEnd}
use Rattle.std.specs.declared.option.Option.{Option}
use Rattle.desk_base.specs.Views.{SinkView}
use Rattle.desk_top.specs.declared.command.DeskCommand.{DeskCommand}
use Rattle.desk_top.specs.declared.command.DeskCommand.TheVariants.{Qna, QnaWorld, Check, Office, Make, Serve, Relay, Agent, Session, Help}
use Rattle.desk_top.specs.declared.status.Status.{Status}
use Rattle.desk_top.specs.declared.status.Status.TheVariants.{Done, Usage, Refused, Source, Sink, Clock, Pocket, Keeper, Door, Memory, InputTooLong}
use Rattle.desk_top.specs.AllDevices.{AllDevices}
use Rattle.desk_top.specs.Asked.{TextEnds, holding}
use Rattle.desk_top.specs.Commands.{Asks, IsNoCommand}
use Rattle.desk_top.specs.Endings.{Comes, Ended, HasInput, OpensFirst, Unasked, Untouched}
use Rattle.desk_top.specs.Runs.{input_limit, TookInput}
use Rattle.desk_top.specs.Said.{Began, Did, IsGoodInput, IsRefused}
use Rattle.desk_top.proofs.FirstLetters.{first_letters}

-- The input was taken, all of it, and is no longer than it may be.
pub record TakesAll (old new : Option (List ℕ)) (taken : List ℕ) : Type 0 where
  pub takes : Consumes old new taken
  pub ends : IsAtEnd new
  pub short : length taken ≤ input_limit

-- an input that was taken up to its end is what was left
taken_is_left : (old new : Option (List ℕ)) (taken : List ℕ) (P : List ℕ → Type 0) → Consumes old new taken → IsAtEnd new → IsSomeAnd old P → P taken
taken_is_left None new taken P takes ends left = absurd left
taken_is_left (Some xs) None taken P takes ends left = absurd takes
taken_is_left (Some xs) (Some ys) taken P takes ends left = subst P (takes ∙ ap (λ l. taken ++ l) ends ∙ append-nil taken) left

-- a command that reads its input and asks no device
abbrev pub IsTextCommand : DeskCommand → Type 0
IsTextCommand QnaWorld = ⊤
IsTextCommand Check = ⊤
IsTextCommand Office = ⊤
IsTextCommand _ = ⊥

took : (k : DeskCommand) → IsTextCommand k → (old new : Option (List ℕ)) (taken input : List ℕ) (P : List ℕ → Type 0) → input ≡ taken → TakesAll old new taken
    → P input → TookInput k old new P
took Qna text old new taken input P is all holds = absurd text
took QnaWorld text old new taken input P is all holds = (taken, all.takes, all.ends, (all.short, subst P is holds))
took Check text old new taken input P is all holds = (taken, all.takes, all.ends, (all.short, subst P is holds))
took Office text old new taken input P is all holds = (taken, all.takes, all.ends, (all.short, subst P is holds))
took (Make number) text old new taken input P is all holds = absurd text
took (Serve asked) text old new taken input P is all holds = absurd text
took (Relay asked) text old new taken input P is all holds = absurd text
took (Agent asked) text old new taken input P is all holds = absurd text
took (Session asked) text old new taken input P is all holds = absurd text
took Help text old new taken input P is all holds = absurd text

-- it does the same beside any other devices
did_as : (k : DeskCommand) → IsTextCommand k → (input : List ℕ) (old new : AllDevices) → Did k input (holding old.sink) (holding new.sink) → Did k input old new
did_as Qna text input old new did = absurd text
did_as QnaWorld text input old new did = did
did_as Check text input old new did = did
did_as Office text input old new did = did
did_as (Make number) text input old new did = absurd text
did_as (Serve asked) text input old new did = absurd text
did_as (Relay asked) text input old new did = absurd text
did_as (Agent asked) text input old new did = absurd text
did_as (Session asked) text input old new did = absurd text
did_as Help text input old new did = absurd text

began_as : (status : Status) (k : DeskCommand) → IsTextCommand k → (input : List ℕ) (old new : AllDevices) → Began status k input (holding old.sink) (holding new.sink) → Began status k input old new
began_as status Qna text input old new began = absurd text
began_as status QnaWorld text input old new began = began
began_as status Check text input old new began = began
began_as status Office text input old new began = began
began_as status (Make number) text input old new began = absurd text
began_as status (Serve asked) text input old new began = absurd text
began_as status (Relay asked) text input old new began = absurd text
began_as status (Agent asked) text input old new began = absurd text
began_as status (Session asked) text input old new began = absurd text
began_as status Help text input old new began = absurd text

-- it opens nothing that is kept
opens_none : (k : DeskCommand) → IsTextCommand k → (old new : AllDevices) (same : Untouched) → new.keeper ≡ old.keeper → Unasked same → OpensFirst k old new same
opens_none Qna text old new same kept unasked = absurd text
opens_none QnaWorld text old new same kept unasked = (kept, unasked)
opens_none Check text old new same kept unasked = (kept, unasked)
opens_none Office text old new same kept unasked = (kept, unasked)
opens_none (Make number) text old new same kept unasked = absurd text
opens_none (Serve asked) text old new same kept unasked = absurd text
opens_none (Relay asked) text old new same kept unasked = absurd text
opens_none (Agent asked) text old new same kept unasked = absurd text
opens_none (Session asked) text old new same kept unasked = absurd text
opens_none Help text old new same kept unasked = absurd text

did_good : (k : DeskCommand) → IsTextCommand k → (input : List ℕ) (old new : AllDevices) → Did k input old new → IsGoodInput k input
did_good Qna text input old new did = absurd text
did_good QnaWorld text input old new did = (did.0, did.1, did.2)
did_good Check text input old new did = (did.0, did.1, did.2)
did_good Office text input old new did = (did.0, did.1)
did_good (Make number) text input old new did = absurd text
did_good (Serve asked) text input old new did = absurd text
did_good (Relay asked) text input old new did = absurd text
did_good (Agent asked) text input old new did = absurd text
did_good (Session asked) text input old new did = absurd text
did_good Help text input old new did = absurd text

-- words ask for one command, and of one that reads its input and asks no device it is known which
one_command : (words : List (List ℕ)) (a b : DeskCommand) → IsTextCommand b → Asks words a → Asks words b → a ≡ b
one_command words Qna Qna text p q = absurd text
one_command words Qna QnaWorld text p q = let h = p.1 in let k = q.1 in cc
one_command words Qna Check text p q = let h = p.1 in let k = q.1 in cc
one_command words Qna Office text p q = let h = p.1 in let k = q.1 in cc
one_command words Qna (Make n) text p q = absurd text
one_command words Qna (Serve other) text p q = absurd text
one_command words Qna (Relay other) text p q = absurd text
one_command words Qna (Agent other) text p q = absurd text
one_command words Qna (Session other) text p q = absurd text
one_command words Qna Help text p q = absurd text
one_command words QnaWorld Qna text p q = absurd text
one_command words QnaWorld QnaWorld text p q = refl
one_command words QnaWorld Check text p q = let h = p.1 in let k = q.1 in cc
one_command words QnaWorld Office text p q = let h = p.1 in let k = q.1 in cc
one_command words QnaWorld (Make n) text p q = absurd text
one_command words QnaWorld (Serve other) text p q = absurd text
one_command words QnaWorld (Relay other) text p q = absurd text
one_command words QnaWorld (Agent other) text p q = absurd text
one_command words QnaWorld (Session other) text p q = absurd text
one_command words QnaWorld Help text p q = absurd text
one_command words Check Qna text p q = absurd text
one_command words Check QnaWorld text p q = let h = p.1 in let k = q.1 in cc
one_command words Check Check text p q = refl
one_command words Check Office text p q = let h = p.1 in let k = q.1 in cc
one_command words Check (Make n) text p q = absurd text
one_command words Check (Serve other) text p q = absurd text
one_command words Check (Relay other) text p q = absurd text
one_command words Check (Agent other) text p q = absurd text
one_command words Check (Session other) text p q = absurd text
one_command words Check Help text p q = absurd text
one_command words Office Qna text p q = absurd text
one_command words Office QnaWorld text p q = let h = p.1 in let k = q.1 in cc
one_command words Office Check text p q = let h = p.1 in let k = q.1 in cc
one_command words Office Office text p q = refl
one_command words Office (Make n) text p q = absurd text
one_command words Office (Serve other) text p q = absurd text
one_command words Office (Relay other) text p q = absurd text
one_command words Office (Agent other) text p q = absurd text
one_command words Office (Session other) text p q = absurd text
one_command words Office Help text p q = absurd text
one_command words (Make m) Qna text p q = absurd text
one_command words (Make m) QnaWorld text p q = let h = p.1 in let k = q.1 in cc
one_command words (Make m) Check text p q = let h = p.1 in let k = q.1 in cc
one_command words (Make m) Office text p q = let h = p.1 in let k = q.1 in cc
one_command words (Make m) (Make n) text p q = absurd text
one_command words (Make m) (Serve other) text p q = absurd text
one_command words (Make m) (Relay other) text p q = absurd text
one_command words (Make m) (Agent other) text p q = absurd text
one_command words (Make m) (Session other) text p q = absurd text
one_command words (Make m) Help text p q = absurd text
one_command words (Serve asked) Qna text p q = absurd text
one_command words (Serve asked) QnaWorld text p q = let h = p.1 in let k = q.1 in cc
one_command words (Serve asked) Check text p q = let h = p.1 in let k = q.1 in cc
one_command words (Serve asked) Office text p q = let h = p.1 in let k = q.1 in cc
one_command words (Serve asked) (Make n) text p q = absurd text
one_command words (Serve asked) (Serve other) text p q = absurd text
one_command words (Serve asked) (Relay other) text p q = absurd text
one_command words (Serve asked) (Agent other) text p q = absurd text
one_command words (Serve asked) (Session other) text p q = absurd text
one_command words (Serve asked) Help text p q = absurd text
one_command words (Relay asked) Qna text p q = absurd text
one_command words (Relay asked) QnaWorld text p q = let e : ◌≡◌ {A = ℕ} 114 113 = first_letters words (Relay asked) QnaWorld p q in absurd (omega (arith, e))
one_command words (Relay asked) Check text p q = let e : ◌≡◌ {A = ℕ} 114 99 = first_letters words (Relay asked) Check p q in absurd (omega (arith, e))
one_command words (Relay asked) Office text p q = let e : ◌≡◌ {A = ℕ} 114 111 = first_letters words (Relay asked) Office p q in absurd (omega (arith, e))
one_command words (Relay asked) (Make n) text p q = absurd text
one_command words (Relay asked) (Serve other) text p q = absurd text
one_command words (Relay asked) (Relay other) text p q = absurd text
one_command words (Relay asked) (Agent other) text p q = absurd text
one_command words (Relay asked) (Session other) text p q = absurd text
one_command words (Relay asked) Help text p q = absurd text
one_command words (Agent asked) Qna text p q = absurd text
one_command words (Agent asked) QnaWorld text p q = let e : ◌≡◌ {A = ℕ} 97 113 = first_letters words (Agent asked) QnaWorld p q in absurd (omega (arith, e))
one_command words (Agent asked) Check text p q = let e : ◌≡◌ {A = ℕ} 97 99 = first_letters words (Agent asked) Check p q in absurd (omega (arith, e))
one_command words (Agent asked) Office text p q = let e : ◌≡◌ {A = ℕ} 97 111 = first_letters words (Agent asked) Office p q in absurd (omega (arith, e))
one_command words (Agent asked) (Make n) text p q = absurd text
one_command words (Agent asked) (Serve other) text p q = absurd text
one_command words (Agent asked) (Relay other) text p q = absurd text
one_command words (Agent asked) (Agent other) text p q = absurd text
one_command words (Agent asked) (Session other) text p q = absurd text
one_command words (Agent asked) Help text p q = absurd text
one_command words (Session asked) Qna text p q = absurd text
one_command words (Session asked) QnaWorld text p q = let e : ◌≡◌ {A = ℕ} 115 113 = first_letters words (Session asked) QnaWorld p q in absurd (omega (arith, e))
one_command words (Session asked) Check text p q = let e : ◌≡◌ {A = ℕ} 115 99 = first_letters words (Session asked) Check p q in absurd (omega (arith, e))
one_command words (Session asked) Office text p q = let e : ◌≡◌ {A = ℕ} 115 111 = first_letters words (Session asked) Office p q in absurd (omega (arith, e))
one_command words (Session asked) (Make n) text p q = absurd text
one_command words (Session asked) (Serve other) text p q = absurd text
one_command words (Session asked) (Relay other) text p q = absurd text
one_command words (Session asked) (Agent other) text p q = absurd text
one_command words (Session asked) (Session other) text p q = absurd text
one_command words (Session asked) Help text p q = absurd text
one_command words Help Qna text p q = absurd text
one_command words Help QnaWorld text p q = let h = p.1 in let k = q.1 in cc
one_command words Help Check text p q = let h = p.1 in let k = q.1 in cc
one_command words Help Office text p q = let e : ◌≡◌ {A = ℕ} 45 111 = first_letters words Help Office p q in absurd (omega (arith, e))
one_command words Help (Make n) text p q = absurd text
one_command words Help (Serve other) text p q = absurd text
one_command words Help (Relay other) text p q = absurd text
one_command words Help (Agent other) text p q = absurd text
one_command words Help (Session other) text p q = absurd text
one_command words Help Help text p q = absurd text

-- What it answered, of the input that it took.
pub record Text (k : DeskCommand) (words : List (List ℕ)) (left left' : Option (List ℕ)) (input : List ℕ) (status : Status) (sink sink' : SinkView) (Unwritten : Type 0) : Type 0 where
  pub text : IsTextCommand k
  pub asked : Asks words k
  pub taken : List ℕ
  pub is : input ≡ taken
  pub all : TakesAll left left' taken
  pub ends : TextEnds k status input sink sink' Unwritten

text_memory : (k : DeskCommand) (words : List (List ℕ)) (old new : AllDevices) (input : List ℕ) (Unwritten : Type 0) (same : Untouched)
    → new.keeper ≡ old.keeper → (Unwritten → Unasked same) → same.door → Text k words old.source.left new.source.left input Memory old.sink new.sink Unwritten
    → Unwritten ⊎ Began Memory k input (holding old.sink) (holding new.sink) → Ended Memory words old new same
text_memory k words old new input Unwritten same kept unasked unopened t (inl unwritten) =
    inl ((k, t.asked, opens_none k t.text old new same kept (unasked unwritten)), (t.taken, t.all.takes, t.all.short), unopened)
text_memory k words old new input Unwritten same kept unasked unopened t (inr began) =
    inr (k, t.asked, took k t.text old.source.left new.source.left t.taken input (λ i. Began Memory k i old new) t.is t.all (began_as Memory k t.text input old new began))

pub text_ended : (k : DeskCommand) (words : List (List ℕ)) (status : Status) (old new : AllDevices) (input : List ℕ) (Unwritten : Type 0) (same : Untouched)
    → new.keeper ≡ old.keeper → (Unwritten → Unasked same) → same.door → Text k words old.source.left new.source.left input status old.sink new.sink Unwritten
    → Ended status words old new same
text_ended k words Done old new input Unwritten same kept unasked unopened t = (k, t.asked, took k t.text old.source.left new.source.left t.taken input (λ i. Did k i old new) t.is t.all (did_as k t.text input old new t.ends))
text_ended k words Usage old new input Unwritten same kept unasked unopened t = absurd t.ends
text_ended k words Refused old new input Unwritten same kept unasked unopened t =
    inl (k, t.asked, took k t.text old.source.left new.source.left t.taken input (λ i. IsRefused k i (Appends old.sink.held new.sink.held)) t.is t.all (t.ends.0))
text_ended k words Source old new input Unwritten same kept unasked unopened t = absurd t.ends
text_ended k words Sink old new input Unwritten same kept unasked unopened t = inr (k, t.asked, took k t.text old.source.left new.source.left t.taken input (λ i. Began Sink k i old new) t.is t.all (began_as Sink k t.text input old new t.ends))
text_ended k words Clock old new input Unwritten same kept unasked unopened t = absurd t.ends
text_ended k words Pocket old new input Unwritten same kept unasked unopened t = absurd t.ends
text_ended k words Keeper old new input Unwritten same kept unasked unopened t = absurd t.ends
text_ended k words Door old new input Unwritten same kept unasked unopened t = absurd t.ends
text_ended k words Memory old new input Unwritten same kept unasked unopened t = text_memory k words old new input Unwritten same kept unasked unopened t t.ends
text_ended k words InputTooLong old new input Unwritten same kept unasked unopened t = absurd t.ends

-- a status that the input fixes, but for want of memory
abbrev OrMemory : Status → Status → Type 0
OrMemory status wanted = (status ≡ wanted) ⊎ (status ≡ Memory)

good_is_done : (k : DeskCommand) (input : List ℕ) (status : Status) (sink sink' : SinkView) (Unwritten : Type 0) → TextEnds k status input sink sink' Unwritten → IsGoodInput k input → status ≢ Sink → OrMemory status Done
good_is_done k input Done sink sink' Unwritten ends good no_sink = inl refl
good_is_done k input Usage sink sink' Unwritten ends good no_sink = absurd ends
good_is_done k input Refused sink sink' Unwritten ends good no_sink = absurd (ends.1 good)
good_is_done k input Source sink sink' Unwritten ends good no_sink = absurd ends
good_is_done k input Sink sink sink' Unwritten ends good no_sink = absurd (no_sink refl)
good_is_done k input Clock sink sink' Unwritten ends good no_sink = absurd ends
good_is_done k input Pocket sink sink' Unwritten ends good no_sink = absurd ends
good_is_done k input Keeper sink sink' Unwritten ends good no_sink = absurd ends
good_is_done k input Door sink sink' Unwritten ends good no_sink = absurd ends
good_is_done k input Memory sink sink' Unwritten ends good no_sink = inr refl
good_is_done k input InputTooLong sink sink' Unwritten ends good no_sink = absurd ends

bad_is_refused : (k : DeskCommand) → IsTextCommand k → (input : List ℕ) (status : Status) (sink sink' : SinkView) (Unwritten : Type 0) → TextEnds k status input sink sink' Unwritten → (IsGoodInput k input → ⊥) → status ≢ Sink → OrMemory status Refused
bad_is_refused k text input Done sink sink' Unwritten ends bad no_sink = absurd (bad (did_good k text input (holding sink) (holding sink') ends))
bad_is_refused k text input Usage sink sink' Unwritten ends bad no_sink = absurd ends
bad_is_refused k text input Refused sink sink' Unwritten ends bad no_sink = inl refl
bad_is_refused k text input Source sink sink' Unwritten ends bad no_sink = absurd ends
bad_is_refused k text input Sink sink sink' Unwritten ends bad no_sink = absurd (no_sink refl)
bad_is_refused k text input Clock sink sink' Unwritten ends bad no_sink = absurd ends
bad_is_refused k text input Pocket sink sink' Unwritten ends bad no_sink = absurd ends
bad_is_refused k text input Keeper sink sink' Unwritten ends bad no_sink = absurd ends
bad_is_refused k text input Door sink sink' Unwritten ends bad no_sink = absurd ends
bad_is_refused k text input Memory sink sink' Unwritten ends bad no_sink = inr refl
bad_is_refused k text input InputTooLong sink sink' Unwritten ends bad no_sink = absurd ends

-- more than the limit was not left
pub not_long : (old new : Option (List ℕ)) (taken : List ℕ) → TakesAll old new taken → IsSomeAnd old (λ input. input_limit < length input) → ⊥
not_long old new taken all long =
    let more = taken_is_left old new taken (λ input. input_limit < length input) all.takes all.ends long in
    let short = all.short in
    absurd (omega arith)

-- words of a command that does more are no others
not_asked : (words : List (List ℕ)) (k other : DeskCommand) → IsTextCommand k → Asks words k → (IsTextCommand other → ⊥) → Asks words other → ⊥
not_asked words k other text asks none asked = let P : DeskCommand → Type 0 = IsTextCommand in none (subst P (sym (one_command words other k text asked asks)) text)

pub text_comes : (k : DeskCommand) (words : List (List ℕ)) (status : Status) (left left' : Option (List ℕ)) (saved : Option (Option (List ℕ))) (sink sink' : SinkView) (input : List ℕ) (Unwritten : Type 0)
    → Text k words left left' input status sink sink' Unwritten → Comes words left saved status
text_comes k words status left left' saved sink sink' input Unwritten t =
    let all : TakesAll left left' t.taken = t.all in
    record {
      usage = λ none. absurd (none k t.asked);
      too_long = λ reads long. absurd (not_long left left' t.taken all long);
      done = λ command asks no_agent has no_source no_sink no_clock no_keeper no_door.
          let Good : List ℕ → Type 0 = IsGoodInput k in
          let Has : DeskCommand → Type 0 = λ m. HasInput left (IsGoodInput m) in
          let good = taken_is_left left left' t.taken (λ i. (length i ≤ input_limit) × IsGoodInput k i) all.takes all.ends (subst Has (one_command words command k t.text asks t.asked) has) in
          good_is_done k input status sink sink' Unwritten t.ends (subst Good (sym t.is) good.1) no_sink;
      served = λ serves. absurd (not_asked words k (Serve serves.0) t.text t.asked (λ e. e) serves.1);
      refused = λ command asks has no_source no_sink.
          let Good : List ℕ → Type 0 = IsGoodInput k in
          let Has : DeskCommand → Type 0 = λ m. HasInput left (λ i. IsGoodInput m i → ⊥) in
          let bad = taken_is_left left left' t.taken (λ i. (length i ≤ input_limit) × (IsGoodInput k i → ⊥)) all.takes all.ends (subst Has (one_command words command k t.text asks t.asked) has) in
          bad_is_refused k t.text input status sink sink' Unwritten t.ends (λ good. bad.1 (subst Good t.is good)) no_sink;
      relayed = λ relays. absurd (not_asked words k (Relay relays.0) t.text t.asked (λ e. e) relays.1);
      rounded = λ rounds. absurd (not_asked words k (Agent rounds.0) t.text t.asked (λ e. e) rounds.1);
      bad_pocket = λ rounds. absurd (not_asked words k (Agent rounds.0) t.text t.asked (λ e. e) rounds.1);
    }

-- words of no command are told the usage
pub usage_comes : (words : List (List ℕ)) (left : Option (List ℕ)) (saved : Option (Option (List ℕ))) → IsNoCommand words → Comes words left saved Usage
usage_comes words left saved none = record {
  usage = λ is no_sink. refl;
  too_long = λ reads. absurd (none reads.0 reads.1);
  done = λ command asks. absurd (none command asks);
  served = λ serves. absurd (none (Serve serves.0) serves.1);
  refused = λ command asks. absurd (none command asks);
  relayed = λ relays. absurd (none (Relay relays.0) relays.1);
  rounded = λ rounds. absurd (none (Agent rounds.0) rounds.1);
  bad_pocket = λ rounds. absurd (none (Agent rounds.0) rounds.1);
}
