-- How a round begins with the first of two upstreams, and when the line of the second one is said.
use Rattle.std.proofs.Common.{◌≡◌, ℕ, Bool, true, false, List, ◌++◌, Option, Some, None, Ok, Err, refl, sym, ap, subst, append-nil}
use Rattle.std.specs.Prelude.{codes, is_some}
use Rattle.std.specs.declared.alloc.AllocError.{AllocError}
use Rattle.desk_door.specs.Links.{LinkView}
use Rattle.desk_rounds.specs.declared.way.Upstreams.{Upstreams}
use Rattle.desk_rounds.specs.Lines.{lines_text}
use Rattle.desk_rounds.specs.Ways.{IsSwitched, OpensLink, switched_now}

-- ---- the link
module _ (upstreams : Option Upstreams) (old new : LinkView) where
  pub opened_none : upstreams ≡ None → new ≡ old → OpensLink upstreams old (Ok None) new
  opened_none is same = subst (λ (u : Option Upstreams). OpensLink u old (Ok None) new) (sym is) (refl, same)

  pub opened_some : (two : Upstreams) (second : List ℕ) → upstreams ≡ Some two → second ≡ two.second → new ≡ record old { upstream = Some two.first }
      → OpensLink upstreams old (Ok (Some second)) new
  opened_some two second is named opens =
      subst (λ (u : Option Upstreams). OpensLink u old (Ok (Some second)) new) (sym is) (ap (λ (s : List ℕ). Some s) named, opens)

  pub opened_short : (two : Upstreams) (error : AllocError) → upstreams ≡ Some two → new ≡ old → OpensLink upstreams old (Err error) new
  opened_short two error is same = subst (λ (u : Option Upstreams). OpensLink u old (Err error) new) (sym is) same

-- ---- the line
true_false : true ≡ false → ⊥
true_false e = cc

module _ (out : List ℕ) where
  pub not_before : (before : Bool) (second : Option (List ℕ)) → before ≡ false → out ≡ out ++ lines_text (switched_now before second)
  not_before false second is = sym (append-nil out)
  not_before true second is = absurd (true_false is)

  pub still_there : (before : Bool) (second : Option (List ℕ)) → is_some second ≡ true → out ≡ out ++ lines_text (switched_now before second)
  still_there true (Some upstream) is = sym (append-nil out)
  still_there true None is = absurd (true_false (sym is))
  still_there false second is = sym (append-nil out)

  pub line_said : (after : List ℕ) (before : Bool) (second : Option (List ℕ)) → before ≡ true → is_some second ≡ false → after ≡ out ++ codes "link: second\n"
      → after ≡ out ++ lines_text (switched_now before second)
  line_said after true None was none said = said
  line_said after true (Some upstream) was none said = absurd (true_false none)
  line_said after false second was none said = absurd (true_false (sym was))

  -- for it there was no memory
  pub line_short : (after : List ℕ) (before : Bool) (second : Option (List ℕ)) → before ≡ true → is_some second ≡ false → after ≡ out
      → IsSwitched before second × (after ≡ out)
  line_short after before None was none same = ((was, refl), same)
  line_short after before (Some upstream) was none same = absurd (true_false none)
