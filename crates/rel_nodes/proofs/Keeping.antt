-- A plan stands where its tree stands.
use Rattle.std.proofs.Common.{◌≡◌, ℕ, Bool, true, false, List, [], ◌∷◌, ◌++◌, Option, Some, None, Ok, Err, refl, sym, ap, ◌∙◌, subst}
use Rattle.std.specs.Prelude.{if◌then◌else◌, codes}
use Rattle.rel_lexer.specs.declared.place.Place.{Place}
use Rattle.rel_lexer.specs.declared.operator.BinarySign.{BinarySign}
use Rattle.rel_lexer.specs.declared.operator.UnarySign.{UnarySign}
use Rattle.rel_lexer.specs.declared.operator.UnarySign.TheVariants as before
use Rattle.rel_grammar.specs.declared.casts.CastTo.{CastTo}
use Rattle.rel_grammar.specs.Spans.{span_of_tree, parts_begin, parts_end}
use Rattle.rel_grammar.specs.Spans as spans
use Rattle.rel_grammar.specs.Trees.{Plain, Held, Linked, Parts}
use Rattle.rel_grammar.specs.Trees as tree
use Rattle.rel_value.specs.Plain.{PlainKind, booleans, integers, texts}
use Rattle.rel_types.specs.declared.cast_steps.CastStep.{CastStep}
use Rattle.rel_types.specs.declared.error.TypeError.{TypeError}
use Rattle.rel_types.specs.declared.error.TypeError.TheVariants.{NotSingular, Incompatible}
use Rattle.rel_types.specs.Plans.{PlainNode, node, kind_of, is_plural, numeral, literal, it, cast, unary, chain, tuple, collection, HeldNode, no_node, a_node, LinkedNodes, no_links, more_links, Nodes, no_nodes, more_nodes, first_kind, tuple_kind, any_plural}
use Rattle.rel_types.specs.Outcomes.{Checked, after, defined, fitting}
use Rattle.rel_types.specs.Alike.{same_kind}
use Rattle.rel_types.specs.Heads.{head_of}
use Rattle.rel_types.specs.Casts.{cast_of}
use Rattle.rel_lexer.specs.OperatorWords.{unary_words}
use Rattle.rel_types.specs.Signs.{unary_kind}
use Rattle.rel_types.specs.Typing.{ask_singular, ask_kind, ask_like, singular, truth, same_branch, operand, linked_kind, Chained, one_more_link, Casted, with_cast, one_more_cast, typed_casts, it_inside, one_more, one_more_like, named_node, body_node, choice_node, held, typed, typed_argument, typed_object, typed_filter, typed_links, typed_parts, typed_alike}
use Rattle.rel_nodes.specs.Spans.{begin_of, casts_end, end_of, held_end, links_end, nodes_begin, nodes_end, span_of_node}

abbrev Gives : {A : Type 0} → Checked A → A → Type 0
Gives x a = x ≡ Ok a

ok_same : {A : Type 0} (a b : A) → Gives (Ok a) b → a ≡ b
ok_same a b h = cc

no_fault : {A : Type 0} (e : TypeError) (a : A) → Gives (Err e) a → ⊥
no_fault e a h = cc

-- what each step gave, where all gave something
after_gives : {A B C : Type 0} (x : Checked A) (next : A → Checked B) (r : B) → after x next ≡ Ok r → ((a : A) → x ≡ Ok a → next a ≡ Ok r → C) → C
unfolding after
after_gives (Ok a) next r h k = k a refl h
after_gives (Err e) next r h k = absurd (no_fault e r h)

singular_test : (b : Bool) (s : Place) (n r : PlainNode) → Gives (if b then Err (NotSingular s) else Ok n) r → n ≡ r
singular_test true s n r h = absurd (no_fault (NotSingular s) r h)
singular_test false s n r h = ok_same n r h

kind_test : (b : Bool) (s : Place) (n r : PlainNode) → Gives (if b then Ok n else Err (Incompatible s)) r → n ≡ r
kind_test true s n r h = ok_same n r h
kind_test false s n r h = absurd (no_fault (Incompatible s) r h)

ask_singular_same : (s : Place) (n r : PlainNode) → ask_singular s n ≡ Ok r → n ≡ r
unfolding ask_singular
ask_singular_same s n r h = singular_test (is_plural n) s n r h

ask_kind_same : (k : PlainKind) (s : Place) (n r : PlainNode) → ask_kind k s n ≡ Ok r → n ≡ r
unfolding ask_kind
ask_kind_same k s n r h = kind_test (same_kind k (kind_of n)) s n r h

ask_like_same : (o : Option PlainKind) (s : Place) (n r : PlainNode) → ask_like o s n ≡ Ok r → n ≡ r
unfolding ask_like
ask_like_same None s n r h = ok_same n r h
ask_like_same (Some k) s n r h = ask_kind_same k s n r h

singular_gives : (t : Plain) (x : Checked PlainNode) (r : PlainNode) → singular t x ≡ Ok r → x ≡ Ok r
unfolding singular
singular_gives t x r h =
    after_gives x (ask_singular (span_of_tree t)) r h (λ a e g. e ∙ ap Ok (ask_singular_same (span_of_tree t) a r g))

truth_gives : (t : Plain) (x : Checked PlainNode) (r : PlainNode) → truth t x ≡ Ok r → x ≡ Ok r
unfolding truth
truth_gives t x r h =
    after_gives (singular t x) (ask_kind booleans (span_of_tree t)) r h (λ a e g. singular_gives t x a e ∙ ap Ok (ask_kind_same booleans (span_of_tree t) a r g))

branch_gives : (k : PlainKind) (t : Plain) (x : Checked PlainNode) (r : PlainNode) → same_branch k t x ≡ Ok r → x ≡ Ok r
unfolding same_branch
branch_gives k t x r h =
    after_gives x (ask_kind k (span_of_tree t)) r h (λ a e g. e ∙ ap Ok (ask_kind_same k (span_of_tree t) a r g))

operand_gives : (s : UnarySign) (t : Plain) (x : Checked PlainNode) (r : PlainNode) → operand s t x ≡ Ok r → x ≡ Ok r
unfolding operand
operand_gives before.Exists t x r h = h
operand_gives before.Exist t x r h = h
operand_gives before.Not t x r h = singular_gives t x r h
operand_gives before.Minus t x r h = singular_gives t x r h

-- casts end where their trees end
casts_push : (at : ℕ) (xs : List CastStep) (x : CastStep) → casts_end at (xs ++ (x ∷ [])) ≡ x.place.to
casts_push at [] x = refl
casts_push at (y ∷ ys) x = casts_push y.place.to ys x

one_cast : (at : ℕ) (done : Casted) (c : CastTo) (next : Casted) → one_more_cast done c ≡ Ok next → casts_end at next.steps ≡ c.place.to
unfolding one_more_cast
one_cast at done c next h =
    after_gives (defined c.place c.words (cast_of done.kind c.words)) (λ taken. Ok (with_cast done c.place taken)) next h (λ taken e g.
    ap (λ (x : Casted). casts_end at x.steps) (sym (ok_same (with_cast done c.place taken) next g))
    ∙ casts_push at done.steps (record { place = c.place; cast = taken.cast }))

casts_keep : (at : ℕ) (done : Casted) (cs : List CastTo) (all : Casted) → typed_casts done cs ≡ Ok all → casts_end at all.steps ≡ spans.casts_end (casts_end at done.steps) cs
casts_keep at done [] all h = ap (λ (x : Casted). casts_end at x.steps) (sym (ok_same done all h))
casts_keep at done (c ∷ cs) all h =
    after_gives (one_more_cast done c) (λ next. typed_casts next cs) all h (λ next e g.
    casts_keep at next cs all g ∙ ap (λ x. spans.casts_end x cs) (one_cast at done c next e))

abbrev no_casts : PlainKind → Casted
no_casts k = record { kind = k; steps = [] }

-- a node that stands where this tree stands, and lists of them
abbrev Keeps : Plain → PlainNode → Type 0
Keeps t n = (begin_of n ≡ spans.begin_of t) × (end_of n ≡ spans.end_of t)

abbrev HeldKeeps : Held → HeldNode → Type 0
HeldKeeps t n = (at : ℕ) → held_end at n ≡ spans.held_end at t

abbrev LinksKeep : Linked → LinkedNodes → Type 0
LinksKeep ts ns = (at : ℕ) → links_end at ns ≡ spans.links_end at ts

abbrev PartsKeep : Parts → Nodes → Type 0
PartsKeep ts ns = ((at : ℕ) → nodes_begin ns at ≡ parts_begin ts at) × (nodes_end ns ≡ parts_end ts)

kept : (t : Plain) (m n : PlainNode) → Keeps t m → Gives (Ok m) n → Keeps t n
kept t m n a h = subst (Keeps t) (ok_same m n h) a

abbrev with_link : Chained → Place → BinarySign → PlainNode → PlainKind → Chained
with_link done p s right k = record { kind = k; links = more_links done.links p s right }

one_link : (ts : Linked) (t : Plain) (done : Chained) (p : Place) (s : BinarySign) (span : Place) (right : PlainNode) (next : Chained) → Keeps t right → one_more_link done p s span right ≡ Ok next → LinksKeep (tree.more_links ts p s t) next.links
unfolding one_more_link
one_link ts t done p s span right next a h =
    after_gives (linked_kind p s done.kind span right) (λ k. Ok (with_link done p s right k)) next h (λ k e g.
    subst (λ (c : Chained). LinksKeep (tree.more_links ts p s t) c.links) (ok_same (with_link done p s right k) next g) (λ at. a.1))

one_part : (ts : Parts) (t : Plain) (done : Nodes) (n : PlainNode) → PartsKeep ts done → Keeps t n → PartsKeep (tree.more_parts ts t) (more_nodes done n)
one_part ts t done n a b = ((λ at. a.0 (begin_of n) ∙ ap (parts_begin ts) b.0), b.1)

one_alike : (ts : Parts) (t : Plain) (done : Nodes) (s : Place) (n : PlainNode) (next : Nodes) → PartsKeep ts done → Keeps t n → one_more_like done s n ≡ Ok next → PartsKeep (tree.more_parts ts t) next
unfolding one_more_like
one_alike ts t done s n next a b h =
    after_gives (ask_like (first_kind done) s n) (one_more done) next h (λ m e g.
    subst (PartsKeep (tree.more_parts ts t)) (ok_same (more_nodes done m) next g)
    (one_part ts t done m a (subst (Keeps t) (ask_like_same (first_kind done) s n m e) b)))

-- behind a filter and an object
ends_keep : (at : ℕ) (f o : Held) (filter object : HeldNode) → HeldKeeps f filter → HeldKeeps o object → held_end (held_end at filter) object ≡ spans.held_end (spans.held_end at f) o
ends_keep at f o filter object a b = b (held_end at filter) ∙ ap (λ x. spans.held_end x o) (a at)

mutual
  keeps : (i : Option PlainKind) (t : Plain) (n : PlainNode) → typed i t ≡ Ok n → Keeps t n
  keeps i (tree.numeral p v) n h = kept (tree.numeral p v) (node integers false (numeral p v)) n (refl, refl) h
  keeps i (tree.literal p v) n h = kept (tree.literal p v) (node texts false (literal p v)) n (refl, refl) h
  keeps i (tree.it p) n h =
      after_gives (defined p (codes "it") i) _ n h (λ k e g. kept (tree.it p) (node k false (it p)) n (refl, refl) g)
  keeps i (tree.phrase p w a f o) n h =
      after_gives (typed_argument i a) _ n h (λ argument ea ga.
      after_gives (typed_object i o) _ n ga (λ object eo go.
      after_gives (defined p w (head_of w argument object)) _ n go (λ head eh gh.
      after_gives (typed_filter head.kind f) _ n gh (λ filter ef gf.
      kept (tree.phrase p w a f o) (named_node p argument object head filter) n
      (refl, ends_keep p.to f o filter object (filter_keeps head.kind f filter ef) (object_keeps i o object eo)) gf))))
  keeps i (tree.body p b f o) n h =
      after_gives (typed_object i o) _ n h (λ object eo go.
      after_gives (typed (it_inside i object) b) _ n go (λ inner ei gi.
      after_gives (typed_filter (kind_of inner) f) _ n gi (λ filter ef gf.
      kept (tree.body p b f o) (body_node p object inner filter) n
      (refl, ends_keep p.to f o filter object (filter_keeps (kind_of inner) f filter ef) (object_keeps i o object eo)) gf)))
  keeps i (tree.cast t cs) n h =
      after_gives (singular t (typed i t)) _ n h (λ first e g.
      after_gives (typed_casts (no_casts (kind_of first)) cs) _ n g (λ done ec gc.
      let a = keeps i t first (singular_gives t (typed i t) first e) in
      kept (tree.cast t cs) (node done.kind false (cast first done.steps)) n
      (a.0, casts_keep (end_of first) (no_casts (kind_of first)) cs done ec ∙ ap (λ x. spans.casts_end x cs) a.1) gc))
  keeps i (tree.unary p s t) n h =
      after_gives (operand s t (typed i t)) _ n h (λ right e g.
      after_gives (defined p (unary_words s) (unary_kind s (kind_of right))) _ n g (λ k ek gk.
      kept (tree.unary p s t) (node k false (unary p s right)) n
      (refl, (keeps i t right (operand_gives s t (typed i t) right e)).1) gk))
  keeps i (tree.chain t ls) n h =
      after_gives (singular t (typed i t)) _ n h (λ first e g.
      after_gives (typed_links i (kind_of first) ls) _ n g (λ done el gl.
      let a = keeps i t first (singular_gives t (typed i t) first e) in
      kept (tree.chain t ls) (node done.kind false (chain first done.links)) n
      (a.0, links_keep i (kind_of first) ls done el (end_of first) ∙ ap (λ x. spans.links_end x ls) a.1) gl))
  keeps i (tree.conditional p t y e) n h =
      after_gives (truth t (typed i t)) _ n h (λ test et gt.
      after_gives (typed i y) _ n gt (λ chosen ey gy.
      after_gives (same_branch (kind_of chosen) e (typed i e)) _ n gy (λ other eo go.
      kept (tree.conditional p t y e) (choice_node p test chosen other) n
      (refl, (keeps i e other (branch_gives (kind_of chosen) e (typed i e) other eo)).1) go)))
  keeps i (tree.tuple ps) n h =
      after_gives (typed_parts i ps) _ n h (λ ns e g.
      after_gives (fitting (span_of_tree (tree.tuple ps)) (tuple_kind ns)) _ n g (λ k ek gk.
      let a = parts_keep i ps ns e in
      kept (tree.tuple ps) (node k (any_plural ns) (tuple ns)) n (a.0 0, a.1) gk))
  keeps i (tree.collection ps) n h =
      after_gives (typed_alike i ps) _ n h (λ ns e g.
      after_gives (fitting (span_of_tree (tree.collection ps)) (first_kind ns)) _ n g (λ k ek gk.
      let a = alike_keep i ps ns e in
      kept (tree.collection ps) (node k true (collection ns)) n (a.0 0, a.1) gk))

  object_keeps : (i : Option PlainKind) (t : Held) (r : HeldNode) → typed_object i t ≡ Ok r → HeldKeeps t r
  object_keeps i tree.no_tree r h = subst (HeldKeeps tree.no_tree) (ok_same no_node r h) (λ at. refl)
  object_keeps i (tree.a_tree t) r h =
      after_gives (typed i t) held r h (λ n e g. subst (HeldKeeps (tree.a_tree t)) (ok_same (a_node n) r g) (λ at. (keeps i t n e).1))

  filter_keeps : (k : PlainKind) (t : Held) (r : HeldNode) → typed_filter k t ≡ Ok r → HeldKeeps t r
  filter_keeps k tree.no_tree r h = subst (HeldKeeps tree.no_tree) (ok_same no_node r h) (λ at. refl)
  filter_keeps k (tree.a_tree t) r h =
      after_gives (truth t (typed (Some k) t)) held r h (λ n e g.
      subst (HeldKeeps (tree.a_tree t)) (ok_same (a_node n) r g) (λ at. (keeps (Some k) t n (truth_gives t (typed (Some k) t) n e)).1))

  links_keep : (i : Option PlainKind) (first : PlainKind) (ls : Linked) (done : Chained) → typed_links i first ls ≡ Ok done → LinksKeep ls done.links
  links_keep i first tree.no_links done h = subst (λ (c : Chained). LinksKeep tree.no_links c.links) (ok_same (record { kind = first; links = no_links }) done h) (λ at. refl)
  links_keep i first (tree.more_links ls p s t) done h =
      after_gives (typed_links i first ls) _ done h (λ some e g.
      after_gives (singular t (typed i t)) (one_more_link some p s (span_of_tree t)) done g (λ right er gr.
      one_link ls t some p s (span_of_tree t) right done (keeps i t right (singular_gives t (typed i t) right er)) gr))

  parts_keep : (i : Option PlainKind) (ps : Parts) (ns : Nodes) → typed_parts i ps ≡ Ok ns → PartsKeep ps ns
  parts_keep i tree.no_parts ns h = subst (PartsKeep tree.no_parts) (ok_same no_nodes ns h) ((λ at. refl), refl)
  parts_keep i (tree.more_parts ps t) ns h =
      after_gives (typed_parts i ps) _ ns h (λ some e g.
      after_gives (typed i t) (one_more some) ns g (λ n en gn.
      subst (PartsKeep (tree.more_parts ps t)) (ok_same (more_nodes some n) ns gn) (one_part ps t some n (parts_keep i ps some e) (keeps i t n en))))

  alike_keep : (i : Option PlainKind) (ps : Parts) (ns : Nodes) → typed_alike i ps ≡ Ok ns → PartsKeep ps ns
  alike_keep i tree.no_parts ns h = subst (PartsKeep tree.no_parts) (ok_same no_nodes ns h) ((λ at. refl), refl)
  alike_keep i (tree.more_parts ps t) ns h =
      after_gives (typed_alike i ps) _ ns h (λ some e g.
      after_gives (typed i t) (one_more_like some (span_of_tree t)) ns g (λ n en gn.
      one_alike ps t some (span_of_tree t) n ns (alike_keep i ps some e) (keeps i t n en) gn))

abbrev place_at : ℕ → ℕ → Place
place_at from to = record { from = from; to = to }

pub plans_keep : (i : Option PlainKind) (t : Plain) (n : PlainNode) → typed i t ≡ Ok n → span_of_node n ≡ span_of_tree t
plans_keep i t n h =
    let a = keeps i t n h in
    ap (λ b. place_at b (end_of n)) a.0 ∙ ap (place_at (spans.begin_of t)) a.1
