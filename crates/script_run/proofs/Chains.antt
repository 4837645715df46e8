-- Results that come one after another.
use Rattle.std.proofs.Common.{◌≡◌, ℕ, List, [], ◌∷◌, ◌++◌, refl, sym, ap, subst, ◌∙◌, append_assoc, ◌⊎◌, inl, inr}
use Rattle.bf_machine.specs.Views.{MachineView}
use Rattle.script_run.specs.declared.broken.Broken.{Broken}
use Rattle.script_run.specs.declared.broken.Broken.TheVariants as broken
use Rattle.script_run.specs.Walks.{Known, Settled, Next, Stop, Walk}
use Rattle.script_run.specs.Asking.{When}
use Rattle.script_run.specs.RunSteps.{Settles, Comes, Any, IsTextOf, StarvesAsking, Starves}
use Rattle.script_run.specs.Fills.{Reaches, Breaks}

-- the same walk by another name
pub comes_along : (P : Next → Settled → Type 0) (at : When) (old : MachineView) (f g : Walk) (results : List Settled) (new : MachineView) →
    ((more : List Settled) → f more ≡ g more) → Comes P at old g results new → Comes P at old f results new
comes_along P at old f g results new same h =
    let Q : Walk → Type 0 = λ w. Comes P at old w results new in
    let e : g ≡ f = (λ i more. sym (same more) i) in
    subst Q e h

-- results, and then further ones
pub comes_then : (P : Next → Settled → Type 0) (at : When) (old mid : MachineView) (f : Walk) (results more : List Settled) (new : MachineView) →
    Comes P at old f results mid → Comes P at mid (λ later. f (results ++ later)) more new → Comes P at old f (results ++ more) new
comes_then P at old mid f [] more new e h =
    let Q : MachineView → Type 0 = λ v. Comes P at v f more new in
    subst Q e h
comes_then P at old mid f (result ∷ results) more new (p, (between, s, rest)) h =
    (p, (between, s, comes_then P at between mid (λ later. f (result ∷ later)) results more new rest h))

-- all that is said of texts holds of any results
pub comes_any : (P : Next → Settled → Type 0) (at : When) (old : MachineView) (f : Walk) (results : List Settled) (new : MachineView) →
    Comes P at old f results new → Comes Any at old f results new
comes_any P at old f [] new h = h
comes_any P at old f (result ∷ results) new (p, (between, s, rest)) =
    (tt, (between, s, comes_any P at between (λ later. f (result ∷ later)) results new rest))

pub reach_none : (P : Next → Settled → Type 0) (at : When) (v : MachineView) (f g : Walk) →
    ((more : List Settled) → f more ≡ g more) → Reaches P at v f v g
reach_none P at v f g same = record { results = []; comes = refl; same = same }

pub reach_one : (P : Next → Settled → Type 0) (at : When) (old : MachineView) (f : Walk) (result : Settled) (new : MachineView) (g : Walk) →
    P (f []).next result → Settles at (f []).known (f []).next old result new → ((more : List Settled) → f (result ∷ more) ≡ g more) → Reaches P at old f new g
reach_one P at old f result new g p s same = record { results = result ∷ []; comes = (p, (new, s, refl)); same = same }

pub reach_then : (P : Next → Settled → Type 0) (at : When) (old : MachineView) (f : Walk) (mid : MachineView) (g : Walk) (new : MachineView) (h : Walk) →
    Reaches P at old f mid g → Reaches P at mid g new h → Reaches P at old f new h
reach_then P at old f mid g new h a b = record {
  results = a.results ++ b.results;
  comes = comes_then P at old mid f a.results b.results new a.comes (comes_along P at mid (λ later. f (a.results ++ later)) g b.results new a.same b.comes);
  same = λ more. ap f (append_assoc a.results b.results more) ∙ a.same (b.results ++ more) ∙ b.same more;
}

pub reach_any : (P : Next → Settled → Type 0) (at : When) (old : MachineView) (f : Walk) (new : MachineView) (g : Walk) →
    Reaches P at old f new g → Reaches Any at old f new g
reach_any P at old f new g a = record { results = a.results; comes = comes_any P at old f a.results new a.comes; same = a.same }

-- what is left, by another name
pub reach_same : (P : Next → Settled → Type 0) (at : When) (old : MachineView) (f : Walk) (new : MachineView) (g h : Walk) →
    Reaches P at old f new g → ((more : List Settled) → g more ≡ h more) → Reaches P at old f new h
reach_same P at old f new g h a same = record { results = a.results; comes = a.comes; same = λ more. a.same more ∙ same more }

-- what is walked, by another name
pub reach_from : (P : Next → Settled → Type 0) (at : When) (old : MachineView) (e f : Walk) (new : MachineView) (g : Walk) →
    ((more : List Settled) → e more ≡ f more) → Reaches P at old f new g → Reaches P at old e new g
reach_from P at old e f new g same a = record {
  results = a.results;
  comes = comes_along P at old e f a.results new same a.comes;
  same = λ more. same (a.results ++ more) ∙ a.same more;
}

-- memory ran out after further texts of the line
pub starve_after : (at : When) (line : ℕ) (old : MachineView) (f : Walk) (mid : MachineView) (g : Walk) (new : MachineView) →
    Reaches (IsTextOf line) at old f mid g → Starves at line mid g new → Starves at line old f new
starve_after at line old f mid g new a b =
    let Q : Stop → Type 0 = λ s. (new ≡ b.between) ⊎ StarvesAsking at line s.known s.next b.between new in
    record {
      texts = a.results ++ b.texts;
      between = b.between;
      comes = comes_then (IsTextOf line) at old mid f a.results b.texts b.between a.comes (comes_along (IsTextOf line) at mid (λ later. f (a.results ++ later)) g b.texts b.between a.same b.comes);
      breaks = subst Q (sym (a.same b.texts)) b.breaks;
    }

-- nothing was done, and memory ran out
pub starve_here : (at : When) (line : ℕ) (v : MachineView) (f : Walk) → Starves at line v f v
starve_here at line v f = record { texts = []; between = v; comes = refl; breaks = inl refl }

-- texts of the line were asked, and then memory ran out
pub starve_reached : (at : When) (line : ℕ) (old : MachineView) (f : Walk) (new : MachineView) (g : Walk) →
    Reaches (IsTextOf line) at old f new g → Starves at line old f new
starve_reached at line old f new g a = starve_after at line old f new g new a (starve_here at line new g)

pub starve_asking : (at : When) (line : ℕ) (old : MachineView) (f : Walk) (new : MachineView) →
    StarvesAsking at line (f []).known (f []).next old new → Starves at line old f new
starve_asking at line old f new h = record { texts = []; between = old; comes = refl; breaks = inr h }

pub starve_from : (at : When) (line : ℕ) (old : MachineView) (f g : Walk) (new : MachineView) →
    ((more : List Settled) → f more ≡ g more) → Starves at line old g new → Starves at line old f new
starve_from at line old f g new same h = starve_after at line old f old g new (reach_none (IsTextOf line) at old f g same) h

pub breaks_after : (at : When) (line : ℕ) (known : Known) (old : MachineView) (f : Walk) (mid : MachineView) (g : Walk) (b : Broken) (new : MachineView) →
    Reaches (IsTextOf line) at old f mid g → Breaks at line known mid g b new → Breaks at line known old f b new
breaks_after at line known old f mid g (broken.Failed cause) new a h = reach_then Any at old f mid g new _ (reach_any (IsTextOf line) at old f mid g a) h
breaks_after at line known old f mid g broken.Memory new a h = starve_after at line old f mid g new a h
