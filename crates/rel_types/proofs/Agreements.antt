-- What checking gives agrees with its parts.
use Rattle.std.proofs.Common.{◌≡◌, ℕ, Bool, true, false, ◌&&◌, List, [], ◌∷◌, ◌++◌, Option, Some, None, Ok, Err, refl, sym, ap, ◌∙◌, subst, option_map}
use Rattle.std.specs.Prelude.{if◌then◌else◌, option_and_then, codes}
use Rattle.rel_lexer.specs.declared.place.Place.{Place}
use Rattle.rel_lexer.specs.declared.operator.BinarySign.{BinarySign}
use Rattle.rel_lexer.specs.declared.operator.BinarySign.TheVariants as sign
use Rattle.rel_lexer.specs.declared.operator.UnarySign.{UnarySign}
use Rattle.rel_lexer.specs.declared.operator.UnarySign.TheVariants as before
use Rattle.rel_grammar.specs.declared.casts.CastTo.{CastTo}
use Rattle.rel_grammar.specs.Spans.{span_of_tree}
use Rattle.rel_grammar.specs.Trees.{Plain, Held, Linked, Parts}
use Rattle.rel_grammar.specs.Trees as tree
use Rattle.rel_value.specs.declared.cast_name.Cast.{Cast}
use Rattle.rel_value.specs.Plain.{PlainKind, booleans, integers, texts, text_parts, times, intervals, versions, files, folders, clients, settings, processes, packages, systems, actions, tuples, PlainKinds, no_kinds, more_kinds}
use Rattle.rel_value.specs.Kinds.{binary_kind, cast_kind}
use Rattle.rel_types.specs.declared.cast_steps.CastStep.{CastStep}
use Rattle.rel_types.specs.declared.error.TypeError.{TypeError}
use Rattle.rel_types.specs.declared.error.TypeError.TheVariants.{NotDefined, NotSingular, Incompatible}
use Rattle.rel_types.specs.Plans.{PlainNode, node, kind_of, is_plural, numeral, literal, it, cast, unary, chain, tuple, collection, HeldNode, no_node, a_node, no_links, more_links, Nodes, no_nodes, more_nodes, first_kind, tuple_kind, any_plural}
use Rattle.rel_types.specs.Outcomes.{Checked, after, defined, fitting}
use Rattle.rel_types.specs.Alike.{same_kind, same_kinds}
use Rattle.rel_types.specs.Heads.{head_of}
use Rattle.rel_types.specs.Casts.{CastTaken, cast_named, cast_taken, cast_of}
use Rattle.rel_lexer.specs.OperatorWords.{sign_words, unary_words}
use Rattle.rel_types.specs.Signs.{unary_kind}
use Rattle.rel_types.specs.Typing.{ask_singular, ask_kind, ask_like, singular, truth, same_branch, operand, linked_kind, Chained, one_more_link, Casted, with_cast, one_more_cast, typed_casts, it_inside, one_more, one_more_like, named_node, body_node, choice_node, held, typed, typed_argument, typed_object, typed_filter, typed_links, typed_parts, typed_alike}
use Rattle.rel_types.specs.Agreement.{IsSingular, CastsAgree, SignAgrees, OperandAgrees, AreOf, Agrees, ArgumentAgrees, ObjectAgrees, FilterAgrees, LinksAgree, NodesAgree}

abbrev Gives : {A : Type 0} → Checked A → A → Type 0
Gives x a = x ≡ Ok a

ok_same : {A : Type 0} (a b : A) → Gives (Ok a) b → a ≡ b
ok_same a b h = cc

no_fault : {A : Type 0} (e : TypeError) (a : A) → Gives (Err e) a → ⊥
no_fault e a h = cc

some_same : {A : Type 0} (a b : A) → Some a ≡ Some b → a ≡ b
some_same a b h = cc

none_some : {A : Type 0} (a : A) → None ≡ Some a → ⊥
none_some a h = cc

false_true : false ≡ true → ⊥
false_true h = cc

-- what each step gave, where all gave something
after_gives : {A B C : Type 0} (x : Checked A) (next : A → Checked B) (r : B) → after x next ≡ Ok r → ((a : A) → x ≡ Ok a → next a ≡ Ok r → C) → C
unfolding after
after_gives (Ok a) next r h k = k a refl h
after_gives (Err e) next r h k = absurd (no_fault e r h)

defined_gives : {A : Type 0} (p : Place) (w : List ℕ) (o : Option A) (a : A) → defined p w o ≡ Ok a → o ≡ Some a
unfolding defined
defined_gives p w (Some b) a h = ap Some (ok_same b a h)
defined_gives p w None a h = absurd (no_fault (NotDefined p w) a h)

fitting_gives : {A : Type 0} (p : Place) (o : Option A) (a : A) → fitting p o ≡ Ok a → o ≡ Some a
unfolding fitting
fitting_gives p (Some b) a h = ap Some (ok_same b a h)
fitting_gives p None a h = absurd (no_fault (Incompatible p) a h)

both : (a b : Bool) → (a && b) ≡ true → (a ≡ true) × (b ≡ true)
both true b h = (refl, h)
both false b h = absurd (false_true h)

mutual
  same_kind_is : (a b : PlainKind) → same_kind a b ≡ true → a ≡ b
  same_kind_is booleans booleans h = refl
  same_kind_is integers integers h = refl
  same_kind_is texts texts h = refl
  same_kind_is text_parts text_parts h = refl
  same_kind_is times times h = refl
  same_kind_is intervals intervals h = refl
  same_kind_is versions versions h = refl
  same_kind_is files files h = refl
  same_kind_is folders folders h = refl
  same_kind_is clients clients h = refl
  same_kind_is settings settings h = refl
  same_kind_is processes processes h = refl
  same_kind_is packages packages h = refl
  same_kind_is systems systems h = refl
  same_kind_is actions actions h = refl
  same_kind_is (tuples ks) (tuples ls) h = ap tuples (same_kinds_are ks ls h)
  same_kind_is _ _ h = absurd (false_true h)

  same_kinds_are : (ks ls : PlainKinds) → same_kinds ks ls ≡ true → ks ≡ ls
  same_kinds_are no_kinds no_kinds h = refl
  same_kinds_are (more_kinds ks k) (more_kinds ls l) h =
      let p = both (same_kinds ks ls) (same_kind k l) h in ap (λ x. more_kinds x k) (same_kinds_are ks ls p.0) ∙ ap (more_kinds ls) (same_kind_is k l p.1)
  same_kinds_are _ _ h = absurd (false_true h)

singular_test : (b : Bool) (s : Place) (n r : PlainNode) → Gives (if b then Err (NotSingular s) else Ok n) r → (b ≡ false) × (n ≡ r)
singular_test true s n r h = absurd (no_fault (NotSingular s) r h)
singular_test false s n r h = (refl, ok_same n r h)

kind_test : {A : Type 0} (b : Bool) (s : Place) (a r : A) → Gives (if b then Ok a else Err (Incompatible s)) r → (b ≡ true) × (a ≡ r)
kind_test true s a r h = (refl, ok_same a r h)
kind_test false s a r h = absurd (no_fault (Incompatible s) r h)

ask_singular_gives : (s : Place) (n r : PlainNode) → ask_singular s n ≡ Ok r → (n ≡ r) × IsSingular r
unfolding ask_singular
ask_singular_gives s n r h = let p = singular_test (is_plural n) s n r h in (p.1, ap is_plural (sym p.1) ∙ p.0)

ask_kind_gives : (k : PlainKind) (s : Place) (n r : PlainNode) → ask_kind k s n ≡ Ok r → (n ≡ r) × (k ≡ kind_of r)
unfolding ask_kind
ask_kind_gives k s n r h = let p = kind_test (same_kind k (kind_of n)) s n r h in (p.1, same_kind_is k (kind_of n) p.0 ∙ ap kind_of p.1)

ask_like_gives : (o : Option PlainKind) (s : Place) (n r : PlainNode) → ask_like o s n ≡ Ok r → (n ≡ r) × ((k : PlainKind) → o ≡ Some k → k ≡ kind_of r)
unfolding ask_like
ask_like_gives None s n r h = (ok_same n r h, λ k e. absurd (none_some k e))
ask_like_gives (Some j) s n r h = let p = ask_kind_gives j s n r h in (p.0, λ k e. sym (some_same j k e) ∙ p.1)

singular_gives : (t : Plain) (x : Checked PlainNode) (r : PlainNode) → singular t x ≡ Ok r → (x ≡ Ok r) × IsSingular r
unfolding singular
singular_gives t x r h =
    after_gives x (ask_singular (span_of_tree t)) r h (λ a e g. let p = ask_singular_gives (span_of_tree t) a r g in (e ∙ ap Ok p.0, p.1))

truth_gives : (t : Plain) (x : Checked PlainNode) (r : PlainNode) → truth t x ≡ Ok r → (x ≡ Ok r) × IsSingular r × (booleans ≡ kind_of r)
unfolding truth
truth_gives t x r h =
    after_gives (singular t x) (ask_kind booleans (span_of_tree t)) r h (λ a e g.
    let p = ask_kind_gives booleans (span_of_tree t) a r g in
    let q = singular_gives t x a e in
    (q.0 ∙ ap Ok p.0, subst IsSingular p.0 q.1, p.1))

branch_gives : (k : PlainKind) (t : Plain) (x : Checked PlainNode) (r : PlainNode) → same_branch k t x ≡ Ok r → (x ≡ Ok r) × (k ≡ kind_of r)
unfolding same_branch
branch_gives k t x r h =
    after_gives x (ask_kind k (span_of_tree t)) r h (λ a e g. let p = ask_kind_gives k (span_of_tree t) a r g in (e ∙ ap Ok p.0, p.1))

operand_gives : (s : UnarySign) (t : Plain) (x : Checked PlainNode) (r : PlainNode) → operand s t x ≡ Ok r → (x ≡ Ok r) × OperandAgrees s r
unfolding operand
operand_gives before.Exists t x r h = (h, tt)
operand_gives before.Exist t x r h = (h, tt)
operand_gives before.Not t x r h = singular_gives t x r h
operand_gives before.Minus t x r h = singular_gives t x r h

linked_gives : (p : Place) (s : BinarySign) (left : PlainKind) (span : Place) (right : PlainNode) (k : PlainKind) → linked_kind p s left span right ≡ Ok k → SignAgrees s left (kind_of right) k
unfolding linked_kind
linked_gives p sign.Bar left span right k h = let q = kind_test (same_kind left (kind_of right)) span left k h in (same_kind_is left (kind_of right) q.0, q.1)
linked_gives p s left span right k h = defined_gives p (sign_words s) (binary_kind s left (kind_of right)) k h

abbrev taken_as : Cast → PlainKind → CastTaken
taken_as c k = record { cast = c; kind = k }

taken_gives : (c : Cast) (o : Option PlainKind) (from : PlainKind) (taken : CastTaken) → cast_kind c from ≡ o → option_map (taken_as c) o ≡ Some taken → cast_kind taken.cast from ≡ Some taken.kind
taken_gives c None from taken e h = absurd (none_some taken h)
taken_gives c (Some k) from taken e h = subst (λ (t : CastTaken). cast_kind t.cast from ≡ Some t.kind) (some_same (taken_as c k) taken h) e

named_gives : (from : PlainKind) (o : Option Cast) (taken : CastTaken) → option_and_then (cast_taken from) o ≡ Some taken → cast_kind taken.cast from ≡ Some taken.kind
named_gives from None taken h = absurd (none_some taken h)
named_gives from (Some c) taken h = taken_gives c (cast_kind c from) from taken refl h

cast_gives : (from : PlainKind) (words : List ℕ) (taken : CastTaken) → cast_of from words ≡ Some taken → cast_kind taken.cast from ≡ Some taken.kind
unfolding cast_of
cast_gives from words taken h = named_gives from (cast_named words) taken h

-- one cast more
casts_more : (from : PlainKind) (xs : List CastStep) (k : PlainKind) (c : CastStep) (to : PlainKind) → CastsAgree from xs k → cast_kind c.cast k ≡ Some to → CastsAgree from (xs ++ (c ∷ [])) to
casts_more from [] k c to e h = (to, ap (cast_kind c.cast) e ∙ h, refl)
casts_more from (x ∷ xs) k c to a h = (a.0, a.1, casts_more a.0 xs k c to a.2 h)

one_cast : (from : PlainKind) (done : Casted) (c : CastTo) (next : Casted) → CastsAgree from done.steps done.kind → one_more_cast done c ≡ Ok next → CastsAgree from next.steps next.kind
unfolding one_more_cast
one_cast from done c next a h =
    after_gives (defined c.place c.words (cast_of done.kind c.words)) (λ taken. Ok (with_cast done c.place taken)) next h (λ taken e g.
    subst (λ (x : Casted). CastsAgree from x.steps x.kind) (ok_same (with_cast done c.place taken) next g)
    (casts_more from done.steps done.kind (record { place = c.place; cast = taken.cast }) taken.kind a
    (cast_gives done.kind c.words taken (defined_gives c.place c.words (cast_of done.kind c.words) taken e))))

casts_agree : (from : PlainKind) (done : Casted) (cs : List CastTo) (all : Casted) → CastsAgree from done.steps done.kind → typed_casts done cs ≡ Ok all → CastsAgree from all.steps all.kind
casts_agree from done [] all a h = subst (λ (x : Casted). CastsAgree from x.steps x.kind) (ok_same done all h) a
casts_agree from done (c ∷ cs) all a h =
    after_gives (one_more_cast done c) (λ next. typed_casts next cs) all h (λ next e g. casts_agree from next cs all (one_cast from done c next a e) g)

abbrev no_casts : PlainKind → Casted
no_casts k = record { kind = k; steps = [] }

abbrev with_link : Chained → Place → BinarySign → PlainNode → PlainKind → Chained
with_link done p s right k = record { kind = k; links = more_links done.links p s right }

abbrev first_operand : PlainKind → Chained
first_operand k = record { kind = k; links = no_links }

one_link : (i : Option PlainKind) (first : PlainKind) (done : Chained) (p : Place) (s : BinarySign) (span : Place) (right : PlainNode) (next : Chained) → LinksAgree i first done.links done.kind → Agrees i right → IsSingular right → one_more_link done p s span right ≡ Ok next → LinksAgree i first next.links next.kind
unfolding one_more_link
one_link i first done p s span right next a b d h =
    after_gives (linked_kind p s done.kind span right) (λ k. Ok (with_link done p s right k)) next h (λ k e g.
    subst (λ (c : Chained). LinksAgree i first c.links c.kind) (ok_same (with_link done p s right k) next g)
    (done.kind, a, b, d, linked_gives p s done.kind span right k e))

-- nodes of one kind
abbrev AlikeAgree : Option PlainKind → Nodes → Type 0
AlikeAgree i ns = NodesAgree i ns × ((k : PlainKind) → first_kind ns ≡ Some k → AreOf k ns)

more_alike : (ns : Nodes) (n : PlainNode) (k : PlainKind) → ((j : PlainKind) → first_kind ns ≡ Some j → AreOf j ns) → ((j : PlainKind) → first_kind ns ≡ Some j → j ≡ kind_of n) → first_kind (more_nodes ns n) ≡ Some k → AreOf k (more_nodes ns n)
more_alike no_nodes n k a b e = (tt, sym (some_same (kind_of n) k e))
more_alike (more_nodes ns m) n k a b e = (a k e, b k e)

one_alike : (i : Option PlainKind) (done : Nodes) (s : Place) (n : PlainNode) (next : Nodes) → AlikeAgree i done → Agrees i n → one_more_like done s n ≡ Ok next → AlikeAgree i next
unfolding one_more_like
one_alike i done s n next a b h =
    after_gives (ask_like (first_kind done) s n) (one_more done) next h (λ m e g.
    let p = ask_like_gives (first_kind done) s n m e in
    subst (AlikeAgree i) (ok_same (more_nodes done m) next g)
    ((a.0, subst (Agrees i) p.0 b), λ k f. more_alike done m k a.1 p.1 f))

given : (i : Option PlainKind) (m n : PlainNode) → Agrees i m → Gives (Ok m) n → Agrees i n
given i m n a h = subst (Agrees i) (ok_same m n h) a

mutual
  pub agrees : (i : Option PlainKind) (t : Plain) (n : PlainNode) → typed i t ≡ Ok n → Agrees i n
  agrees i (tree.numeral p v) n h = given i (node integers false (numeral p v)) n (refl, refl) h
  agrees i (tree.literal p v) n h = given i (node texts false (literal p v)) n (refl, refl) h
  agrees i (tree.it p) n h =
      after_gives (defined p (codes "it") i) _ n h (λ k e g.
      given i (node k false (it p)) n (defined_gives p (codes "it") i k e, refl) g)
  agrees i (tree.phrase p w a f o) n h =
      after_gives (typed_argument i a) _ n h (λ argument ea ga.
      after_gives (typed_object i o) _ n ga (λ object eo go.
      after_gives (defined p w (head_of w argument object)) _ n go (λ head eh gh.
      after_gives (typed_filter head.kind f) _ n gh (λ filter ef gf.
      given i (named_node p argument object head filter) n
      (argument_agrees i a argument ea, object_agrees i o object eo, (w, defined_gives p w (head_of w argument object) head eh), filter_agrees head.kind f filter ef) gf))))
  agrees i (tree.body p b f o) n h =
      after_gives (typed_object i o) _ n h (λ object eo go.
      after_gives (typed (it_inside i object) b) _ n go (λ inner ei gi.
      after_gives (typed_filter (kind_of inner) f) _ n gi (λ filter ef gf.
      given i (body_node p object inner filter) n
      (object_agrees i o object eo, agrees (it_inside i object) b inner ei, refl, refl, filter_agrees (kind_of inner) f filter ef) gf)))
  agrees i (tree.cast t cs) n h =
      after_gives (singular t (typed i t)) _ n h (λ first e g.
      after_gives (typed_casts (no_casts (kind_of first)) cs) _ n g (λ done ec gc.
      let p = singular_gives t (typed i t) first e in
      given i (node done.kind false (cast first done.steps)) n
      (agrees i t first p.0, p.1, casts_agree (kind_of first) (no_casts (kind_of first)) cs done refl ec, refl) gc))
  agrees i (tree.unary p s t) n h =
      after_gives (operand s t (typed i t)) _ n h (λ right e g.
      after_gives (defined p (unary_words s) (unary_kind s (kind_of right))) _ n g (λ k ek gk.
      let q = operand_gives s t (typed i t) right e in
      given i (node k false (unary p s right)) n
      (agrees i t right q.0, q.1, defined_gives p (unary_words s) (unary_kind s (kind_of right)) k ek, refl) gk))
  agrees i (tree.chain t ls) n h =
      after_gives (singular t (typed i t)) _ n h (λ first e g.
      after_gives (typed_links i (kind_of first) ls) _ n g (λ done el gl.
      let p = singular_gives t (typed i t) first e in
      given i (node done.kind false (chain first done.links)) n
      (agrees i t first p.0, p.1, links_agree i (kind_of first) ls done el, refl) gl))
  agrees i (tree.conditional p t y e) n h =
      after_gives (truth t (typed i t)) _ n h (λ test et gt.
      after_gives (typed i y) _ n gt (λ chosen ey gy.
      after_gives (same_branch (kind_of chosen) e (typed i e)) _ n gy (λ other eo go.
      let a = truth_gives t (typed i t) test et in
      let b = branch_gives (kind_of chosen) e (typed i e) other eo in
      given i (choice_node p test chosen other) n
      (agrees i t test a.0, a.1, a.2, agrees i y chosen ey, agrees i e other b.0, refl, b.1, refl) go)))
  agrees i (tree.tuple ps) n h =
      after_gives (typed_parts i ps) _ n h (λ ns e g.
      after_gives (fitting (span_of_tree (tree.tuple ps)) (tuple_kind ns)) _ n g (λ k ek gk.
      given i (node k (any_plural ns) (tuple ns)) n
      (parts_agree i ps ns e, fitting_gives (span_of_tree (tree.tuple ps)) (tuple_kind ns) k ek, refl) gk))
  agrees i (tree.collection ps) n h =
      after_gives (typed_alike i ps) _ n h (λ ns e g.
      after_gives (fitting (span_of_tree (tree.collection ps)) (first_kind ns)) _ n g (λ k ek gk.
      let a = alike_agree i ps ns e in
      let f = fitting_gives (span_of_tree (tree.collection ps)) (first_kind ns) k ek in
      given i (node k true (collection ns)) n (a.0, f, a.1 k f, refl) gk))

  argument_agrees : (i : Option PlainKind) (t : Held) (r : HeldNode) → typed_argument i t ≡ Ok r → ArgumentAgrees i r
  argument_agrees i tree.no_tree r h = subst (ArgumentAgrees i) (ok_same no_node r h) tt
  argument_agrees i (tree.a_tree t) r h =
      after_gives (singular t (typed i t)) held r h (λ n e g.
      let p = singular_gives t (typed i t) n e in
      subst (ArgumentAgrees i) (ok_same (a_node n) r g) (agrees i t n p.0, p.1))

  object_agrees : (i : Option PlainKind) (t : Held) (r : HeldNode) → typed_object i t ≡ Ok r → ObjectAgrees i r
  object_agrees i tree.no_tree r h = subst (ObjectAgrees i) (ok_same no_node r h) tt
  object_agrees i (tree.a_tree t) r h =
      after_gives (typed i t) held r h (λ n e g. subst (ObjectAgrees i) (ok_same (a_node n) r g) (agrees i t n e))

  filter_agrees : (k : PlainKind) (t : Held) (r : HeldNode) → typed_filter k t ≡ Ok r → FilterAgrees k r
  filter_agrees k tree.no_tree r h = subst (FilterAgrees k) (ok_same no_node r h) tt
  filter_agrees k (tree.a_tree t) r h =
      after_gives (truth t (typed (Some k) t)) held r h (λ n e g.
      let p = truth_gives t (typed (Some k) t) n e in
      subst (FilterAgrees k) (ok_same (a_node n) r g) (agrees (Some k) t n p.0, p.1, p.2))

  links_agree : (i : Option PlainKind) (first : PlainKind) (ls : Linked) (done : Chained) → typed_links i first ls ≡ Ok done → LinksAgree i first done.links done.kind
  links_agree i first tree.no_links done h = subst (λ (c : Chained). LinksAgree i first c.links c.kind) (ok_same (first_operand first) done h) refl
  links_agree i first (tree.more_links ls p s t) done h =
      after_gives (typed_links i first ls) _ done h (λ some e g.
      after_gives (singular t (typed i t)) (one_more_link some p s (span_of_tree t)) done g (λ right er gr.
      let q = singular_gives t (typed i t) right er in
      one_link i first some p s (span_of_tree t) right done (links_agree i first ls some e) (agrees i t right q.0) q.1 gr))

  parts_agree : (i : Option PlainKind) (ps : Parts) (ns : Nodes) → typed_parts i ps ≡ Ok ns → NodesAgree i ns
  parts_agree i tree.no_parts ns h = subst (NodesAgree i) (ok_same no_nodes ns h) tt
  parts_agree i (tree.more_parts ps t) ns h =
      after_gives (typed_parts i ps) _ ns h (λ some e g.
      after_gives (typed i t) (one_more some) ns g (λ n en gn.
      subst (NodesAgree i) (ok_same (more_nodes some n) ns gn) (parts_agree i ps some e, agrees i t n en)))

  alike_agree : (i : Option PlainKind) (ps : Parts) (ns : Nodes) → typed_alike i ps ≡ Ok ns → AlikeAgree i ns
  alike_agree i tree.no_parts ns h = subst (AlikeAgree i) (ok_same no_nodes ns h) (tt, λ k e. tt)
  alike_agree i (tree.more_parts ps t) ns h =
      after_gives (typed_alike i ps) _ ns h (λ some e g.
      after_gives (typed i t) (one_more_like some (span_of_tree t)) ns g (λ n en gn.
      one_alike i some (span_of_tree t) n ns (alike_agree i ps some e) (agrees i t n en) gn))
