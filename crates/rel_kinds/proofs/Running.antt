-- Each aggregate comes to a value or a fault with each further value.
use Rattle.std.proofs.Common.{◌≡◌, pos, true, false, List, [], ◌∷◌, All, Option, Some, None, refl, ap, ◌∙◌}
use Rattle.std.proofs.lemmas.List.Elements.{All-head, All-tail}
use Rattle.rel_lexer.specs.declared.operator.BinarySign.{BinarySign}
use Rattle.rel_lexer.specs.declared.operator.BinarySign.TheVariants as sign
use Rattle.rel_value.specs.Kinds.{binary_kind, IsOfKind}
use Rattle.rel_value.specs.Outcomes.{Outcome, gives, fails, no_row}
use Rattle.rel_value.specs.Plain.{Plain, boolean, integer, interval, words, PlainKind, booleans, integers, texts, times, versions, intervals, kind_of}
use Rattle.rel_value.specs.Signs.{op}
use Rattle.rel_types.specs.declared.head.Aggregate.TheVariants as aggregate
use Rattle.rel_types.specs.Plans as plan
use Rattle.rel_types.specs.Plans.{HeldNode, no_node, a_node, held_kind}
use Rattle.rel_types.specs.Rows.{admits, given_by}
use Rattle.rel_types.specs.Aggregates.{aggregate_rows}
use Rattle.rel_trace.specs.declared.fold.Fold.{Fold}
use Rattle.rel_trace.specs.declared.fold.Fold.TheVariants as fold
use Rattle.rel_trace.specs.Folds.{held_first, signed, later_if, beyond, and_joined, joined_by, more}
use Rattle.rel_trace.specs.Trace.{is_true}
use Rattle.rel_nodes.specs.Meaning.{fold_of}
use Rattle.rel_kinds.specs.Giving.{IsThere}
use Rattle.rel_kinds.specs.Running.{GoesOn, HaveOutcomes, RowGoesOn}
use Rattle.rel_kinds.proofs.Outcomes.{op-kind}
use Rattle.rel_kinds.proofs.Folds.{Holds}
use Rattle.rel_kinds.proofs.Asked.{Each, ◌▹◌, each-all, argument_at, asked-integers, asked-intervals, asked-times, asked-versions, asked-booleans, ordered-texts, joined-texts, joined-separators}
use Rattle.rel_kinds.proofs.Basics.{later-kind}

-- a fold over values of one kind that holds values of another: with each further value there is a row, which gives such a value
abbrev Steps : Fold → Option Plain → PlainKind → PlainKind → Type 0
Steps f separator l h = (held : Option Plain) (v : Plain) → Holds h held → kind_of v ≡ l → IsOfKind (Some h) (more f separator held v)

goes-on : (h : PlainKind) (o : Outcome) (next : Plain → Type 0) → IsOfKind (Some h) o → ((x : Plain) → kind_of x ≡ h → next x) → GoesOn o next
goes-on h (gives x) next e k = k x e
goes-on h (fails why) next e k = tt
goes-on h no_row next e k = e

runs : (f : Fold) (separator : Option Plain) (l h : PlainKind) → Steps f separator l h → (held : Option Plain) (vs : List Plain) → Holds h held → All (λ v. kind_of v ≡ l) vs → HaveOutcomes f separator held vs
runs f separator l h steps held [] e a = tt
runs f separator l h steps held (v ∷ vs) e a =
    goes-on h (more f separator held v) (λ x. HaveOutcomes f separator (Some x) vs) (steps held v e (All-head (λ u. kind_of u ≡ l) v vs a))
    (λ x ex. runs f separator l h steps (Some x) vs ex (All-tail (λ u. kind_of u ≡ l) v vs a))

-- ---- the steps of each fold

signed-steps : (s : BinarySign) (l : PlainKind) → binary_kind s l l ≡ Some l → (held : Option Plain) (v : Plain) → Holds l held → kind_of v ≡ l → IsOfKind (Some l) (signed s held v)
signed-steps s l row None v e g = g
signed-steps s l row (Some x) v e g = op-kind s x v l l l e g row

later_if-kind : (l : PlainKind) (x v : Plain) (o : Outcome) → kind_of x ≡ l → kind_of v ≡ l → IsOfKind (Some booleans) o → IsOfKind (Some l) (later_if x v o)
later_if-kind l x v (gives b) e g h = later-kind l x v (is_true b) e g
later_if-kind l x v (fails why) e g h = tt
later_if-kind l x v no_row e g h = h

beyond-steps : (s : BinarySign) (l : PlainKind) → binary_kind s l l ≡ Some booleans → (held : Option Plain) (v : Plain) → Holds l held → kind_of v ≡ l → IsOfKind (Some l) (beyond s held v)
beyond-steps s l row None v e g = g
beyond-steps s l row (Some x) v e g = later_if-kind l x v (op s x v) e g (op-kind s x v l l booleans e g row)

-- kinds that `&` takes
abbrev Joins : PlainKind → Type 0
Joins l = binary_kind sign.Join texts l ≡ Some texts

and_joined-kind : (l : PlainKind) (o : Outcome) (v : Plain) → Joins l → kind_of v ≡ l → IsOfKind (Some texts) o → IsOfKind (Some texts) (and_joined o v)
and_joined-kind l (gives x) v row g h = op-kind sign.Join x v texts l texts h g row
and_joined-kind l (fails why) v row g h = tt
and_joined-kind l no_row v row g h = h

joined-steps : (l : PlainKind) → Joins l → (held : Option Plain) (v : Plain) → Holds texts held → kind_of v ≡ l → IsOfKind (Some texts) (joined_by None held v)
joined-steps l row None v e g = op-kind sign.Join (words []) v texts l texts refl g row
joined-steps l row (Some x) v e g = op-kind sign.Join x v texts l texts e g row

separated-steps : (l m : PlainKind) (s : Plain) → Joins l → Joins m → kind_of s ≡ m → (held : Option Plain) (v : Plain) → Holds texts held → kind_of v ≡ l → IsOfKind (Some texts) (joined_by (Some s) held v)
separated-steps l m s row also es None v e g = op-kind sign.Join (words []) v texts l texts refl g row
separated-steps l m s row also es (Some x) v e g = and_joined-kind l (op sign.Join x s) v row g (op-kind sign.Join x s texts m texts e es also)

-- ---- each row

concatenation-runs : (l : PlainKind) (argument : HeldNode) (separator : Option Plain) (vs : List Plain) → admits (argument_at 15 aggregate_rows) (given_by (held_kind argument)) ≡ true → IsThere (held_kind argument) separator → Joins l → All (λ v. kind_of v ≡ l) vs → HaveOutcomes (fold_of aggregate.Concatenation texts argument) separator (held_first (fold_of aggregate.Concatenation texts argument)) vs
concatenation-runs l no_node separator vs a there h e = runs fold.Concatenation separator l texts (λ held v x g. joined-steps l h held v x g) None vs tt e
concatenation-runs l (a_node n) None vs a there h e = absurd there
concatenation-runs l (a_node n) (Some s) vs a there h e =
    runs fold.Separated (Some s) l texts (separated-steps l (plan.kind_of n) s h (joined-separators (plan.kind_of n) a) there) None vs tt e

-- `<` has a row exactly where `>` has one
greatest : (l : PlainKind) → binary_kind sign.Less l l ≡ Some booleans → (separator : Option Plain) (vs : List Plain) → All (λ v. kind_of v ≡ l) vs → HaveOutcomes fold.Maximum separator None vs
greatest l row separator vs e = runs fold.Maximum separator l l (beyond-steps sign.Less l row) None vs tt e

least : (l : PlainKind) → binary_kind sign.Less l l ≡ Some booleans → (separator : Option Plain) (vs : List Plain) → All (λ v. kind_of v ≡ l) vs → HaveOutcomes fold.Minimum separator None vs
least l row separator vs e = runs fold.Minimum separator l l (beyond-steps sign.Greater l row) None vs tt e

less : (l k : PlainKind) → l ≡ k → binary_kind sign.Less k k ≡ Some booleans → binary_kind sign.Less l l ≡ Some booleans
less l k e h = ap (λ j. binary_kind sign.Less j j) e ∙ h

rows-go-on : Each RowGoesOn aggregate_rows
unfolding aggregate_rows
rows-go-on =
    (λ argument separator fa there l fo vs e. runs fold.Number separator l integers (λ held v x g. signed-steps sign.Plus integers refl held (integer (pos 1)) x refl) (Some (integer (pos 0))) vs refl e)
    ▹ (λ argument separator fa there l fo vs e. runs fold.IntegerSum separator l integers (λ held v x g. signed-steps sign.Plus integers refl held v x (g ∙ asked-integers l fo)) (Some (integer (pos 0))) vs refl e)
    ▹ (λ argument separator fa there l fo vs e. runs fold.IntervalSum separator l intervals (λ held v x g. signed-steps sign.Plus intervals refl held v x (g ∙ asked-intervals l fo)) (Some (interval (pos 0))) vs refl e)
    ▹ (λ argument separator fa there l fo vs e. greatest l (less l integers (asked-integers l fo) refl) separator vs e)
    ▹ (λ argument separator fa there l fo vs e. greatest l (less l intervals (asked-intervals l fo) refl) separator vs e)
    ▹ (λ argument separator fa there l fo vs e. greatest l (less l times (asked-times l fo) refl) separator vs e)
    ▹ (λ argument separator fa there l fo vs e. greatest l (less l versions (asked-versions l fo) refl) separator vs e)
    ▹ (λ argument separator fa there l fo vs e. greatest l (ordered-texts l fo) separator vs e)
    ▹ (λ argument separator fa there l fo vs e. least l (less l integers (asked-integers l fo) refl) separator vs e)
    ▹ (λ argument separator fa there l fo vs e. least l (less l intervals (asked-intervals l fo) refl) separator vs e)
    ▹ (λ argument separator fa there l fo vs e. least l (less l times (asked-times l fo) refl) separator vs e)
    ▹ (λ argument separator fa there l fo vs e. least l (less l versions (asked-versions l fo) refl) separator vs e)
    ▹ (λ argument separator fa there l fo vs e. least l (ordered-texts l fo) separator vs e)
    ▹ (λ argument separator fa there l fo vs e. runs fold.Conjunction separator l booleans (λ held v x g. signed-steps sign.And booleans refl held v x (g ∙ asked-booleans l fo)) (Some (boolean true)) vs refl e)
    ▹ (λ argument separator fa there l fo vs e. runs fold.Disjunction separator l booleans (λ held v x g. signed-steps sign.Or booleans refl held v x (g ∙ asked-booleans l fo)) (Some (boolean false)) vs refl e)
    ▹ (λ argument separator fa there l fo vs e. concatenation-runs l argument separator vs fa there (joined-texts l fo) e)
    ▹ tt

pub aggregates-run : All RowGoesOn aggregate_rows
aggregates-run = each-all RowGoesOn RowGoesOn (λ row h. h) aggregate_rows rows-go-on
