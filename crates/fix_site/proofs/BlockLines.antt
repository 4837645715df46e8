-- The lines of blocks: which can stand ahead, and what a block is known by.
use Rattle.std.proofs.Common.{ℕ, ◌≡◌, ◌<◌, List, [], ◌∷◌, ◌++◌, length, refl, sym, ap, subst, ◌∙◌, arith, All}
use Rattle.std.specs.Prelude.{codes, decimal}
use Rattle.std.proofs.lemmas.List.{append_cancel_left}
use Rattle.std.proofs.lemmas.List.Elements.{All-head, All-contains}
use Rattle.line_forms.specs.Fields.{field_text}
use Rattle.line_forms.specs.LineStates.{LineState}
use Rattle.line_forms.specs.Readers.{Passes, AreLinesOf, StopsAt, IsStuck, IsNotAhead}
use Rattle.line_forms.specs.Numbers.{IsId}
use Rattle.line_forms.proofs.Passing.{cons_head, cons_tail, passes_then}
use Rattle.line_forms.proofs.PlainLemmas.{id_one}
use Rattle.fix_site.specs.declared.action.Action.{Action}
use Rattle.fix_site.specs.declared.fixlet.Success.TheVariants as success
use Rattle.fix_site.specs.declared.block.Block.{Block}
use Rattle.fix_site.specs.declared.block.Block.TheVariants.{Fixlet as fixlet_block, Baseline as baseline_block, Action as action_block}
use Rattle.fix_site.specs.declared.block_reader.Head.{Head}
use Rattle.fix_site.specs.declared.block_reader.Kind.{Kind}
use Rattle.fix_site.specs.declared.block_reader.Kind.TheVariants as kind
use Rattle.fix_site.specs.Actions.{action_rest}
use Rattle.fix_site.specs.Contents.{fixlet_rest, baseline_rest}
use Rattle.fix_site.specs.Blocks.{IsBlock, IsKindOf, HasId, HasFixlet, CanFollow, AreBlocks, HasNewId, block_id, id_line, block_rest, block_lines}
use Rattle.fix_site.specs.Readings.{IsTwice, IsFixletOf, IsBaselineOf, IsActionOf, IsComponent}
use Rattle.fix_site.specs.BlockHeads.{IsKindFor, head_line, CanBegin, CanStand, IsBlockOf}
use Rattle.line_forms.proofs.Lasts.{each_all}
use Rattle.line_forms.proofs.Parts.{Lines, stuck_same}
use Rattle.line_forms.proofs.Sequences.{OneWayBehind, with_first}
use Rattle.fix_site.proofs.ContentLines.{apart}
use Rattle.fix_site.proofs.Fixlets.{fixlet_one}
use Rattle.fix_site.proofs.Baselines.{baseline_one}
use Rattle.fix_site.proofs.Actions.{action_one, some_action}

abbrev pub kind_of : Block → Kind
kind_of (fixlet_block f) = kind.Fixlet
kind_of (baseline_block b) = kind.Baseline
kind_of (action_block a) = kind.Action

id_line_is : (block : Block) → id_line block ≡ head_line (kind_of block) (block_id block)
id_line_is (fixlet_block f) = refl
id_line_is (baseline_block b) = refl
id_line_is (action_block a) = refl

-- a first line is known by its kind and its id
head_same : (k l : Kind) (i j : ℕ) → IsId i → IsId j → head_line k i ≡ head_line l j → (k ≡ l) × (i ≡ j)
head_same kind.Fixlet kind.Fixlet i j is fine e = (refl, id_one i j is fine (append_cancel_left (field_text (codes "fixlet")) (decimal i) (decimal j) e))
head_same kind.Fixlet kind.Baseline i j is fine e = absurd (apart 0 102 (head_line kind.Fixlet i) (head_line kind.Baseline j) refl refl e)
head_same kind.Fixlet kind.Action i j is fine e = absurd (apart 0 102 (head_line kind.Fixlet i) (head_line kind.Action j) refl refl e)
head_same kind.Baseline kind.Fixlet i j is fine e = absurd (apart 0 98 (head_line kind.Baseline i) (head_line kind.Fixlet j) refl refl e)
head_same kind.Baseline kind.Baseline i j is fine e = (refl, id_one i j is fine (append_cancel_left (field_text (codes "baseline")) (decimal i) (decimal j) e))
head_same kind.Baseline kind.Action i j is fine e = absurd (apart 0 98 (head_line kind.Baseline i) (head_line kind.Action j) refl refl e)
head_same kind.Action kind.Fixlet i j is fine e = absurd (apart 0 97 (head_line kind.Action i) (head_line kind.Fixlet j) refl refl e)
head_same kind.Action kind.Baseline i j is fine e = absurd (apart 0 97 (head_line kind.Action i) (head_line kind.Baseline j) refl refl e)
head_same kind.Action kind.Action i j is fine e = (refl, id_one i j is fine (append_cancel_left (field_text (codes "action")) (decimal i) (decimal j) e))

kind_for : (name : List ℕ) (block : Block) → IsKindOf name block → IsKindFor name (kind_of block)
kind_for name (fixlet_block f) h = h
kind_for name (baseline_block b) h = h
kind_for name (action_block a) h = h

kind_back : (name : List ℕ) (block : Block) → IsKindFor name (kind_of block) → IsKindOf name block
kind_back name (fixlet_block f) h = h
kind_back name (baseline_block b) h = h
kind_back name (action_block a) h = h

-- ids
is_id : (block : Block) → IsBlock block → IsId (block_id block)
is_id (fixlet_block f) is = is.id
is_id (baseline_block b) is = is.id
is_id (action_block a) is = is.id

pub all_good : (name : List ℕ) (blocks : List Block) → AreBlocks name blocks → All IsBlock blocks
all_good name blocks are = each_all IsBlock (CanFollow name) (λ before v can. can.good) blocks are

id_in : (name : List ℕ) (blocks : List Block) (id : ℕ) → AreBlocks name blocks → HasId blocks id → IsId id
id_in name blocks id are (block, within, same) = subst IsId same (is_id block (All-contains IsBlock blocks block (all_good name blocks are) within))

-- where a fixlet stands, a component can be named
pub a_component : (name : List ℕ) (blocks : List Block) → AreBlocks name blocks → CanBegin blocks kind.Baseline 0 → (component : ℕ) × IsComponent blocks component
a_component name blocks are (f, within) =
    (f.id, (is_id (fixlet_block f) (All-contains IsBlock blocks (fixlet_block f) (all_good name blocks are) within), (f, within, refl)))

-- a block that can follow can begin
some_fixlet : (blocks : List Block) (components : List ℕ) → 0 < length components → All (HasFixlet blocks) components → CanBegin blocks kind.Baseline 0
some_fixlet blocks [] some all = absurd (omega (arith, some))
some_fixlet blocks (c ∷ cs) some all = let h = All-head (HasFixlet blocks) c cs all in (h.0, h.1)

can_begin : (name : List ℕ) (blocks : List Block) (block : Block) → CanFollow name blocks block → CanBegin blocks (kind_of block) (block_id block)
can_begin name blocks (fixlet_block f) can = tt
can_begin name blocks (baseline_block b) can = some_fixlet blocks b.components can.good.some can.components
can_begin name blocks (action_block a) can = can.id

is_block_of : (name : List ℕ) (blocks : List Block) (head : Head) (block : Block) → CanFollow name blocks block → head.kind ≡ kind_of block → block_id block ≡ head.id → IsBlockOf blocks head block
is_block_of name blocks head (fixlet_block f) can k i = (k, (can.good, i))
is_block_of name blocks head (baseline_block b) can k i = (k, (can.good, can.components, i))
is_block_of name blocks head (action_block a) can k i = (k, (can.good, i))

of_kind : (blocks : List Block) (head : Head) (block : Block) → IsBlockOf blocks head block → (head.kind ≡ kind_of block) × (block_id block ≡ head.id)
of_kind blocks head (fixlet_block f) is = (is.0, is.1.1)
of_kind blocks head (baseline_block b) is = (is.0, is.1.2)
of_kind blocks head (action_block a) is = (is.0, is.1.1)

-- and a block of such a head can follow
can_follow : (name : List ℕ) (blocks : List Block) (head : Head) (block : Block) → IsKindFor name head.kind → ¬ HasId blocks head.id → CanStand blocks head → IsBlockOf blocks head block → CanFollow name blocks block
can_follow name blocks head (fixlet_block f) is_kind new stand (k, (good, i)) =
    let K : Kind → Type 0 = IsKindFor name in
    let N : ℕ → Type 0 = λ n. ¬ HasId blocks n in
    record { good = good; kind = subst K k is_kind; id = subst N (sym i) new; components = tt }
can_follow name blocks head (baseline_block b) is_kind new stand (k, (good, fixlets, i)) =
    let K : Kind → Type 0 = IsKindFor name in
    let N : ℕ → Type 0 = λ n. ¬ HasId blocks n in
    record { good = good; kind = subst K k is_kind; id = subst N (sym i) new; components = fixlets }
can_follow name blocks head (action_block a) is_kind new stand (k, (good, i)) =
    let K : Kind → Type 0 = IsKindFor name in
    let S : Kind → Type 0 = λ x. CanBegin blocks x head.id in
    let N : ℕ → Type 0 = λ n. CanBegin blocks kind.Action n in
    record { good = good; kind = subst K k is_kind; id = subst N (sym i) (subst S k stand); components = tt }

head_line_of : (blocks : List Block) (head : Head) (block : Block) → IsBlockOf blocks head block → head_line head.kind head.id ≡ id_line block
head_line_of blocks head block is =
    let of = of_kind blocks head block is in
    ap (λ (x : Kind). head_line x head.id) of.0 ∙ ap (λ (n : ℕ). head_line (kind_of block) n) (sym of.1) ∙ sym (id_line_is block)

-- a block whose first line is that of the head
same_head : (block : Block) (head : Head) → IsId (block_id block) → IsId head.id → id_line block ≡ head_line head.kind head.id → (head.kind ≡ kind_of block) × (block_id block ≡ head.id)
same_head block head is fine e =
    let same = head_same (kind_of block) head.kind (block_id block) head.id is fine (sym (id_line_is block) ∙ e) in
    (sym same.0, same.1)

-- no first line is ahead that a site of this name can have
pub no_head_ahead : (name : List ℕ) (blocks : List Block) (state : LineState) → AreBlocks name blocks → ((k : Kind) (id : ℕ) (more : Lines) → IsKindFor name k → IsId id → ¬ (state.lines ≡ head_line k id ∷ more)) →
    IsNotAhead (CanFollow name blocks) id_line state × IsNotAhead (IsTwice name blocks) id_line state
no_head_ahead name blocks state are none = (
  λ block more can e. none (kind_of block) (block_id block) more (kind_for name block can.kind) (is_id block can.good) (e ∙ ap (λ l. l ∷ more) (id_line_is block)),
  λ block more twice e. none (kind_of block) (block_id block) more (kind_for name block twice.0) (id_in name blocks (block_id block) are twice.1) (e ∙ ap (λ l. l ∷ more) (id_line_is block)),
)

-- or one that can't follow
abbrev pub IsHeadLine : Head → LineState → Type 0
IsHeadLine head state = (more : Lines) × (state.lines ≡ head_line head.kind head.id ∷ more)

pub cannot_follow : (name : List ℕ) (blocks : List Block) (head : Head) (state : LineState) → AreBlocks name blocks → IsId head.id → IsHeadLine head state → ¬ HasId blocks head.id → ¬ CanStand blocks head →
    IsNotAhead (CanFollow name blocks) id_line state × IsNotAhead (IsTwice name blocks) id_line state
cannot_follow name blocks head state are is (rest, ahead) new never = (
  λ block more can e.
      let same = same_head block head (is_id block can.good) is (cons_head (id_line block) (head_line head.kind head.id) more rest (sym e ∙ ahead)) in
      let K : Kind → Type 0 = λ x. CanBegin blocks x head.id in
      let N : ℕ → Type 0 = λ n. CanBegin blocks (kind_of block) n in
      never (subst K (sym same.0) (subst N same.1 (can_begin name blocks block can))),
  λ block more twice e.
      let same = same_head block head (id_in name blocks (block_id block) are twice.1) is (cons_head (id_line block) (head_line head.kind head.id) more rest (sym e ∙ ahead)) in
      let H : ℕ → Type 0 = HasId blocks in
      new (subst H same.1 twice.1),
)

-- a block of each kind and id
abbrev block_at : (k : Kind) (id : ℕ) (a : Action) → Block
block_at kind.Fixlet id a = fixlet_block (record { id = id; title = []; relevance = []; success = success.Lines; script = [] })
block_at kind.Baseline id a = baseline_block (record { id = id; title = []; relevance = []; components = [] })
block_at kind.Action id a = action_block (record a { id = id })

kind_at : (k : Kind) (id : ℕ) (a : Action) → kind_of (block_at k id a) ≡ k
kind_at kind.Fixlet id a = refl
kind_at kind.Baseline id a = refl
kind_at kind.Action id a = refl

id_at : (k : Kind) (id : ℕ) (a : Action) → block_id (block_at k id a) ≡ id
id_at kind.Fixlet id a = refl
id_at kind.Baseline id a = refl
id_at kind.Action id a = refl

-- a first line whose id stood before
abbrev pub IsTwiceLine : List ℕ → List Block → LineState → Type 0
IsTwiceLine name blocks state = (block : Block) × (more : Lines) × IsTwice name blocks block × (state.lines ≡ id_line block ∷ more)

pub twice_ahead : (name : List ℕ) (blocks : List Block) (head : Head) (state : LineState) → IsKindFor name head.kind → IsHeadLine head state → HasId blocks head.id → IsTwiceLine name blocks state
twice_ahead name blocks head state is_kind (more, ahead) twice =
    let block = block_at head.kind head.id some_action in
    let K : Kind → Type 0 = IsKindFor name in
    let H : ℕ → Type 0 = HasId blocks in
    let line : head_line head.kind head.id ≡ id_line block =
    ap (λ (x : Kind). head_line x head.id) (sym (kind_at head.kind head.id some_action)) ∙ ap (λ (n : ℕ). head_line (kind_of block) n) (sym (id_at head.kind head.id some_action)) ∙ sym (id_line_is block) in
    (block, more, (kind_back name block (subst K (sym (kind_at head.kind head.id some_action)) is_kind), subst H (sym (id_at head.kind head.id some_action)) twice), ahead ∙ ap (λ l. l ∷ more) line)

-- the lines of a block behind a first one that was taken
pub block_taken : (name : List ℕ) (blocks : List Block) (head : Head) (block : Block) (old mid new : LineState) → IsKindFor name head.kind → ¬ HasId blocks head.id → CanStand blocks head → Passes old mid (head_line head.kind head.id ∷ []) →
    IsBlockOf blocks head block → Passes mid new (block_rest block) → CanFollow name blocks block × Passes old new (block_lines block)
block_taken name blocks head block old mid new is_kind fresh stand first is rest =
    let P : List ℕ → Type 0 = λ l. Passes old mid (l ∷ []) in
    (can_follow name blocks head block is_kind fresh stand is, passes_then old mid new (id_line block ∷ []) (block_rest block) (subst P (head_line_of blocks head block is) first) rest)

abbrev pub IsBadBlock : List ℕ → List Block → LineState → LineState → Type 0
IsBadBlock name blocks old new =
    (before : Lines) × (0 < length before) × Passes old new before × StopsAt (AreLinesOf (CanFollow name blocks) block_lines) before new

-- a set of lines and the same with one line before them
stops_cons : (S T : Lines → Type 0) (line : List ℕ) (before : Lines) (state : LineState) → ((lines : Lines) → S lines → T (line ∷ lines)) → ((lines : Lines) → T (line ∷ lines) → S lines) → StopsAt S before state → StopsAt T (line ∷ before) state
stops_cons S T line before state there back stops = record {
  begins = (stops.begins.0, there (before ++ stops.begins.0) stops.begins.1);
  unfinished = λ good. stops.unfinished (back before good);
  ahead = λ next more is_ahead (rest, good). stops.ahead next more is_ahead (rest, back ((before ++ next ∷ []) ++ rest) good);
}

pub block_stuck : (name : List ℕ) (blocks : List Block) (head : Head) (old mid new : LineState) → IsKindFor name head.kind → IsId head.id → ¬ HasId blocks head.id → CanStand blocks head → Passes old mid (head_line head.kind head.id ∷ []) →
    IsStuck (AreLinesOf (IsBlockOf blocks head) block_rest) mid new → IsBadBlock name blocks old new
block_stuck name blocks head old mid new is_kind is fresh stand first (before, passes, stops) = (
  head_line head.kind head.id ∷ before,
  omega arith,
  passes_then old mid new (head_line head.kind head.id ∷ []) before first passes,
  stops_cons (AreLinesOf (IsBlockOf blocks head) block_rest) (AreLinesOf (CanFollow name blocks) block_lines) (head_line head.kind head.id) before new there back stops,
)
  where
    there : (lines : Lines) → AreLinesOf (IsBlockOf blocks head) block_rest lines → AreLinesOf (CanFollow name blocks) block_lines (head_line head.kind head.id ∷ lines)
    there lines (block, of, e) =
        (block, can_follow name blocks head block is_kind fresh stand of, ap (λ l. l ∷ lines) (head_line_of blocks head block of) ∙ ap (λ l. id_line block ∷ l) e)

    back : (lines : Lines) → AreLinesOf (CanFollow name blocks) block_lines (head_line head.kind head.id ∷ lines) → AreLinesOf (IsBlockOf blocks head) block_rest lines
    back lines (block, can, e) =
        let same = same_head block head (is_id block can.good) is (sym (cons_head (head_line head.kind head.id) (id_line block) lines (block_rest block) e)) in
        (block, is_block_of name blocks head block can same.0 same.1, cons_tail (head_line head.kind head.id) (id_line block) lines (block_rest block) e)

-- the lines of a fixlet, a baseline or an action are those of a block
pub fixlet_stuck : (blocks : List Block) (head : Head) (old new : LineState) → head.kind ≡ kind.Fixlet → IsStuck (AreLinesOf (IsFixletOf head.id) fixlet_rest) old new → IsStuck (AreLinesOf (IsBlockOf blocks head) block_rest) old new
fixlet_stuck blocks head old new k stuck = stuck_same (AreLinesOf (IsFixletOf head.id) fixlet_rest) (AreLinesOf (IsBlockOf blocks head) block_rest) old new (λ lines h. (fixlet_block h.0, (k, h.1), h.2)) back stuck
  where
    back : (lines : Lines) → AreLinesOf (IsBlockOf blocks head) block_rest lines → AreLinesOf (IsFixletOf head.id) fixlet_rest lines
    back lines (fixlet_block f, is, e) = (f, is.1, e)
    back lines (baseline_block b, (other, is), e) = cc
    back lines (action_block a, (other, is), e) = cc

pub baseline_stuck : (blocks : List Block) (head : Head) (old new : LineState) → head.kind ≡ kind.Baseline → IsStuck (AreLinesOf (IsBaselineOf blocks head.id) baseline_rest) old new → IsStuck (AreLinesOf (IsBlockOf blocks head) block_rest) old new
baseline_stuck blocks head old new k stuck = stuck_same (AreLinesOf (IsBaselineOf blocks head.id) baseline_rest) (AreLinesOf (IsBlockOf blocks head) block_rest) old new (λ lines h. (baseline_block h.0, (k, h.1), h.2)) back stuck
  where
    back : (lines : Lines) → AreLinesOf (IsBlockOf blocks head) block_rest lines → AreLinesOf (IsBaselineOf blocks head.id) baseline_rest lines
    back lines (fixlet_block f, (other, is), e) = cc
    back lines (baseline_block b, is, e) = (b, is.1, e)
    back lines (action_block a, (other, is), e) = cc

pub action_stuck : (blocks : List Block) (head : Head) (old new : LineState) → head.kind ≡ kind.Action → IsStuck (AreLinesOf (IsActionOf head.id) action_rest) old new → IsStuck (AreLinesOf (IsBlockOf blocks head) block_rest) old new
action_stuck blocks head old new k stuck = stuck_same (AreLinesOf (IsActionOf head.id) action_rest) (AreLinesOf (IsBlockOf blocks head) block_rest) old new (λ lines h. (action_block h.0, (k, h.1), h.2)) back stuck
  where
    back : (lines : Lines) → AreLinesOf (IsBlockOf blocks head) block_rest lines → AreLinesOf (IsActionOf head.id) action_rest lines
    back lines (fixlet_block f, (other, is), e) = cc
    back lines (baseline_block b, (other, is), e) = cc
    back lines (action_block a, is, e) = (a, is.1, e)

-- a block is known by its lines, whatever follows
block_same : (name : List ℕ) (before : List Block) (v w : Block) (x y : Lines) → CanFollow name before v → CanFollow name before w → kind_of v ≡ kind_of w → block_id v ≡ block_id w → block_rest v ++ x ≡ block_rest w ++ y → v ≡ w
block_same name before (fixlet_block f) (fixlet_block g) x y can other k i e = ap fixlet_block (fixlet_one f.id f g x y (can.good, refl) (other.good, sym i) e)
block_same name before (fixlet_block f) (baseline_block c) x y can other k i e = cc
block_same name before (fixlet_block f) (action_block b) x y can other k i e = cc
block_same name before (baseline_block b) (fixlet_block g) x y can other k i e = cc
block_same name before (baseline_block b) (baseline_block c) x y can other k i e =
    ap baseline_block (baseline_one before b.id b c x y (can.good, can.components, refl) (other.good, other.components, sym i) e)
block_same name before (baseline_block b) (action_block a) x y can other k i e = cc
block_same name before (action_block a) (fixlet_block g) x y can other k i e = cc
block_same name before (action_block a) (baseline_block c) x y can other k i e = cc
block_same name before (action_block a) (action_block b) x y can other k i e = ap action_block (action_one a.id a b x y (can.good, refl) (other.good, sym i) e)

pub block_one : (name : List ℕ) → OneWayBehind (CanFollow name) (with_first id_line block_rest)
block_one name before v w x y can other e =
    let same = head_same (kind_of v) (kind_of w) (block_id v) (block_id w) (is_id v can.good) (is_id w other.good)
    (sym (id_line_is v) ∙ cons_head (id_line v) (id_line w) (block_rest v ++ x) (block_rest w ++ y) e ∙ id_line_is w) in
    block_same name before v w x y can other same.0 same.1 (cons_tail (id_line v) (id_line w) (block_rest v ++ x) (block_rest w ++ y) e)

-- no block can follow whose id stood before
pub twice_cannot : (name : List ℕ) (blocks : List Block) (block other : Block) → AreBlocks name blocks → HasId blocks (block_id block) → CanFollow name blocks other → id_line other ≡ id_line block → ⊥
twice_cannot name blocks block other are twice can e =
    let same = head_same (kind_of other) (kind_of block) (block_id other) (block_id block) (is_id other can.good) (id_in name blocks (block_id block) are twice) (sym (id_line_is other) ∙ e ∙ id_line_is block) in
    let H : ℕ → Type 0 = HasId blocks in
    fresh other can.id (subst H (sym same.1) twice)
  where
    fresh : (other : Block) → HasNewId blocks other → HasId blocks (block_id other) → ⊥
    fresh (fixlet_block f) new has = new has
    fresh (baseline_block b) new has = new has
    fresh (action_block a) new (stood, within, same) =
        let below : block_id stood < a.id = All-contains (λ x. block_id x < a.id) blocks stood new within in
        omega arith
