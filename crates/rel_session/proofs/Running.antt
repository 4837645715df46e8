-- Lines that are run one after another, and what the devices did of them.
use Rattle.std.proofs.Common.{◌≡◌, ℕ, ◌+◌, ℤ, List, [], ◌∷◌, ◌++◌, None, Some, inl, inr, refl, sym, ap, ◌∙◌, append_assoc, append-nil, subst, arith}
use Rattle.std.proofs.lemmas.List.Elements.{All-append, All-nil}
use Rattle.std.specs.declared.option.Option.{Option}
use Rattle.std.proofs.KnownBytes.{Appends-nil, Appends-trans}
use Rattle.desk_base.specs.Moments.{AppendsMoments}
use Rattle.bf_world.specs.Worlds.{WorldState}
use Rattle.rel_session.specs.Devices.{Devices, Dates, Did, DidAll, DidFront}
use Rattle.rel_session.specs.Readings.{Readings}
use Rattle.rel_session.specs.Sessions.{Session, Run, nothing, after, RunsLine, Runs, IsFrontOfLine, IsFrontOfRun}
use Rattle.bf_machine.proofs.Telling.{CountsFailed-more, CountsFailed-none, LooksUp-nil, LooksUp-trans}

AppendsMoments-nil : (a : Option (List ℤ)) → AppendsMoments a a []
AppendsMoments-nil None = tt
AppendsMoments-nil (Some xs) = sym (append-nil xs)

AppendsMoments-trans : (a b c : Option (List ℤ)) (xs ys : List ℤ) → AppendsMoments a b xs → AppendsMoments b c ys → AppendsMoments a c (xs ++ ys)
AppendsMoments-trans None b c xs ys p q = tt
AppendsMoments-trans (Some a) None c xs ys p q = absurd p
AppendsMoments-trans (Some a) (Some b) None xs ys p q = absurd q
AppendsMoments-trans (Some a) (Some b) (Some c) xs ys p q = q ∙ ap (λ l. l ++ ys) p ∙ append_assoc a xs ys

pub Dates-nil : (fixed : Option ℤ) (a : Option (List ℤ)) → Dates fixed a a []
Dates-nil None a = AppendsMoments-nil a
Dates-nil (Some moment) a = (All-nil (λ x. x ≡ moment), refl)

pub Dates-trans : (fixed : Option ℤ) (a b c : Option (List ℤ)) (xs ys : List ℤ) → Dates fixed a b xs → Dates fixed b c ys → Dates fixed a c (xs ++ ys)
Dates-trans None a b c xs ys p q = AppendsMoments-trans a b c xs ys p q
Dates-trans (Some moment) a b c xs ys p q = (All-append (λ x. x ≡ moment) xs ys p.0 q.0, q.1 ∙ p.1)

Did-nil : (world : Option WorldState) (fixed : Option ℤ) (a : Devices) → Did world fixed a a [] nothing
Did-nil world fixed a = record {
  written = Appends-nil a.sink.held;
  looked = LooksUp-nil world a.machine.looked;
  faults = CountsFailed-none a.machine.faults a.machine.faults refl;
  dated = Dates-nil fixed a.clock.given;
}

Did-trans : (world : Option WorldState) (fixed : Option ℤ) (a b c : Devices) (xs ys : List ℤ) (r s : Run) → Did world fixed a b xs r → Did world fixed b c ys s → Did world fixed a c (xs ++ ys) (after r s)
Did-trans world fixed a b c xs ys r s p q = record {
  written = Appends-trans a.sink.held b.sink.held c.sink.held r.bytes s.bytes p.written q.written;
  looked = LooksUp-trans world a.machine.looked b.machine.looked c.machine.looked r.looks s.looks p.looked q.looked;
  faults = CountsFailed-more r.faults s.faults a.machine.faults b.machine.faults c.machine.faults p.faults q.faults;
  dated = Dates-trans fixed a.clock.given b.clock.given c.clock.given xs ys p.dated q.dated;
}

after_nothing : (r : Run) → after r nothing ≡ r
after_nothing r =
    let With : List ℕ → List _ → ℕ → Run = λ x y n. record { bytes = x; looks = y; faults = n } in
    ap (λ x. With x (r.looks ++ []) (r.faults + 0)) (append-nil r.bytes) ∙ ap (λ y. With r.bytes y (r.faults + 0)) (append-nil r.looks) ∙ ap (λ n. With r.bytes r.looks n) (omega arith)

nothing_after : (r : Run) → r ≡ after nothing r
nothing_after r = ap (λ n. record r { faults = n }) (omega arith)

after_after : (a b c : Run) → after (after a b) c ≡ after a (after b c)
after_after a b c =
    let With : List ℕ → List _ → ℕ → Run = λ x y n. record { bytes = x; looks = y; faults = n } in
    ap (λ x. With x ((a.looks ++ b.looks) ++ c.looks) ((a.faults + b.faults) + c.faults)) (append_assoc a.bytes b.bytes c.bytes)
    ∙ ap (λ y. With (a.bytes ++ (b.bytes ++ c.bytes)) y ((a.faults + b.faults) + c.faults)) (append_assoc a.looks b.looks c.looks)
    ∙ ap (λ n. With (a.bytes ++ (b.bytes ++ c.bytes)) (a.looks ++ (b.looks ++ c.looks)) n) (omega arith)

-- Some first lines are run; what is run of the rest, or a front of it, goes on from there.
pub record RanSoFar (reads : Readings) (offset : ℤ) (fixed : Option ℤ) (first : Session) (lines : List (List ℕ)) (old : Devices) (s : Session) (rest : List (List ℕ)) (now : Devices) : Type 0 where
  pub moments : List ℤ
  pub run : Run
  pub did : Did old.machine.world fixed old now moments run
  pub whole : (later : List ℤ) (r : Run) → Runs reads old.machine.world offset s rest later r → Runs reads old.machine.world offset first lines (moments ++ later) (after run r)
  pub front : (later : List ℤ) (r : Run) → IsFrontOfRun reads old.machine.world offset s rest later r → IsFrontOfRun reads old.machine.world offset first lines (moments ++ later) (after run r)

pub RanSoFar-start : (reads : Readings) (offset : ℤ) (fixed : Option ℤ) (s : Session) (lines : List (List ℕ)) (a : Devices) → RanSoFar reads offset fixed s lines a s lines a
RanSoFar-start reads offset fixed s lines a = record {
  moments = [];
  run = nothing;
  did = Did-nil a.machine.world fixed a;
  whole = λ later r runs. let Ran : Run → Type 0 = λ z. Runs reads a.machine.world offset s lines later z in subst Ran (nothing_after r) runs;
  front = λ later r is. let Ran : Run → Type 0 = λ z. IsFrontOfRun reads a.machine.world offset s lines later z in subst Ran (nothing_after r) is;
}

-- the next line is run
pub RanSoFar-step : (reads : Readings) (offset : ℤ) (fixed : Option ℤ) (first : Session) (lines : List (List ℕ)) (old : Devices) (s s' : Session) (rest more : List (List ℕ)) (line : List ℕ) (now new : Devices) (moments : List ℤ) (run : Run)
    → RanSoFar reads offset fixed first lines old s rest now → rest ≡ line ∷ more → RunsLine reads old.machine.world offset s line moments run s' → Did old.machine.world fixed now new moments run
    → RanSoFar reads offset fixed first lines old s' more new
RanSoFar-step reads offset fixed first lines old s s' rest more line now new moments run before is runs did =
    let Before : List (List ℕ) → Type 0 = λ l. RanSoFar reads offset fixed first lines old s l now in
    let b : RanSoFar reads offset fixed first lines old s (line ∷ more) now = subst Before is before in
    let Ran : Run → List ℤ → Type 0 = λ r l. Runs reads old.machine.world offset first lines l r in
    let Front : Run → List ℤ → Type 0 = λ r l. IsFrontOfRun reads old.machine.world offset first lines l r in
    record {
      moments = b.moments ++ moments;
      run = after b.run run;
      did = Did-trans old.machine.world fixed old now new b.moments moments b.run run b.did did;
      whole = λ later r goes.
          subst (λ z. Ran z ((b.moments ++ moments) ++ later)) (sym (after_after b.run run r))
          (subst (Ran (after b.run (after run r))) (sym (append_assoc b.moments moments later)) (b.whole (moments ++ later) (after run r) (moments, later, refl, (run, s', runs, (r, goes, refl)))));
      front = λ later r goes.
          subst (λ z. Front z ((b.moments ++ moments) ++ later)) (sym (after_after b.run run r))
          (subst (Front (after b.run (after run r))) (sym (append_assoc b.moments moments later)) (b.front (moments ++ later) (after run r) (inr (moments, later, refl, (run, s', runs, (r, goes, refl))))));
    }

-- a front of the next line is run
pub RanSoFar-stop : (reads : Readings) (offset : ℤ) (fixed : Option ℤ) (first : Session) (lines : List (List ℕ)) (old : Devices) (s : Session) (rest more : List (List ℕ)) (line : List ℕ) (now new : Devices) (moments : List ℤ) (front : Run)
    → RanSoFar reads offset fixed first lines old s rest now → rest ≡ line ∷ more → IsFrontOfLine reads old.machine.world offset s line moments front → Did old.machine.world fixed now new moments front
    → DidFront reads offset first lines fixed old new
RanSoFar-stop reads offset fixed first lines old s rest more line now new moments front before is some did =
    let Before : List (List ℕ) → Type 0 = λ l. RanSoFar reads offset fixed first lines old s l now in
    let b : RanSoFar reads offset fixed first lines old s (line ∷ more) now = subst Before is before in
    (b.moments ++ moments, after b.run front, b.front moments front (inl some), Did-trans old.machine.world fixed old now new b.moments moments b.run front b.did did)

-- all lines are run
pub RanSoFar-end : (reads : Readings) (offset : ℤ) (fixed : Option ℤ) (first : Session) (lines : List (List ℕ)) (old : Devices) (s : Session) (rest : List (List ℕ)) (now : Devices) → RanSoFar reads offset fixed first lines old s rest now → rest ≡ []
    → DidAll reads offset first lines fixed old now
RanSoFar-end reads offset fixed first lines old s rest now before is =
    let Before : List (List ℕ) → Type 0 = λ l. RanSoFar reads offset fixed first lines old s l now in
    let b : RanSoFar reads offset fixed first lines old s [] now = subst Before is before in
    let Moments : List ℤ → Type 0 = λ l. Did old.machine.world fixed old now l (after b.run nothing) in
    let Done : Run → Type 0 = λ r. Did old.machine.world fixed old now b.moments r in
    (b.moments ++ [], after b.run nothing, b.whole [] nothing (refl, refl), subst Moments (sym (append-nil b.moments)) (subst Done (sym (after_nothing b.run)) b.did))
