-- How chains and relations are read, link by link.
use Rattle.std.proofs.Common.{◌≡◌, ℕ, ◌≤◌, List, length, ◌∙◌, ap, arith}
use Rattle.rel_lexer.specs.declared.place.Place.{Place}
use Rattle.rel_grammar.specs.Shapes.{Shaped}
use Rattle.rel_lexer.specs.declared.operator.BinarySign.{BinarySign}
use Rattle.rel_grammar.specs.declared.level.Level.{Level}
use Rattle.rel_grammar.specs.declared.level.Level.TheVariants as level
use Rattle.rel_grammar.specs.declared.error.ParseError.{ParseError}
use Rattle.rel_grammar.specs.Grammar.{equals, differs, below, at_most, above, at_least, no_relop, relates}
use Rattle.rel_grammar.specs.Trees.{Plain, chain, Linked, no_links, more_links, relop_sign, relop_place, sum_tree}
use Rattle.rel_grammar.specs.Machine.{left_side, right_side, depth_relation, go}
use Rattle.rel_grammar.specs.Reads.{OverChain, chain_only, chain_more, chain_first, chain_next, chain_depth, sign_operator, begin_part, next_chain, chain_head, chain_links, LacksSign, SplitsSign, ChainReads, ChainFails, PartReads, PartFails, ChainGoesOn, RelopReads, RelopFails, LacksRelop}
use Rattle.rel_grammar.proofs.Absent as absent

-- chain
pub chain_one_read : (l : Level) (d : ℕ) (ts : List Shaped) (tree : Plain) (left : List Shaped) → PartReads l d ts tree left → LacksSign l left → ChainReads l d ts tree left
chain_one_read l d ts tree left u h = record {
  found = chain_only l u.found;
  tree_is = u.tree_is ∙ absent.only_tree l u.found;
  shorter = u.shorter;
  reads = λ C e. u.reads (chain_first l C) (absent.first_depth l C ∙ e) ∙ absent.first_ends l u.found C left ∙ absent.no_sign_here l left (chain_only l u.found) C h;
}

pub chain_begins : (l : Level) (d : ℕ) (ts : List Shaped) (tree : Plain) (left : List Shaped) (p : Place) (op : BinarySign) (next : List Shaped) (links : Linked) → PartReads l d ts tree left → SplitsSign l left p op next → links ≡ no_links → ChainGoesOn l d ts tree links p op next
chain_begins l d ts tree left p op next links u s i = record {
  found = chain_only l u.found;
  sign_found = s.0;
  first_is = u.tree_is ∙ absent.only_head l u.found;
  links_are = i ∙ absent.only_links l u.found;
  sign_is = s.2;
  shorter = omega (arith, u.shorter, ap length s.1);
  reads = λ C h. u.reads (chain_first l C) (absent.first_depth l C ∙ h) ∙ absent.first_ends l u.found C left ∙ ap (go (next_chain l (chain_only l u.found) C)) s.1;
}

chain_then : (l : Level) (d : ℕ) (ts : List Shaped) (first : Plain) (links : Linked) (p : Place) (op : BinarySign) (next : List Shaped) (tree : Plain) (left : List Shaped) → d ≤ 64 → (g : ChainGoesOn l d ts first links p op next) (u : PartReads l d next tree left) (C : OverChain l) → chain_depth l C ≡ d → go (begin_part l (chain_first l C)) ts ≡ go (next_chain l (chain_more l g.found p g.sign_found u.found) C) left
chain_then l d ts first links p op next tree left h g u C e =
    g.reads C e ∙ absent.sign_here l g.sign_found p next g.found d C e h
    ∙ u.reads (chain_next l g.found p g.sign_found C) (absent.next_depth l g.found p g.sign_found C ∙ e)
    ∙ absent.next_ends l u.found g.found p g.sign_found C left

chain_links_more : (l : Level) (d : ℕ) (ts : List Shaped) (first : Plain) (links links' : Linked) (p : Place) (op : BinarySign) (next : List Shaped) (tree : Plain) (left : List Shaped) → (g : ChainGoesOn l d ts first links p op next) (u : PartReads l d next tree left) → links' ≡ more_links links p op tree → links' ≡ chain_links l (chain_more l g.found p g.sign_found u.found)
chain_links_more l d ts first links links' p op next tree left g u i =
    i ∙ ap (λ x. more_links x p op tree) g.links_are ∙ ap (λ x. more_links (chain_links l g.found) p x tree) g.sign_is
    ∙ ap (more_links (chain_links l g.found) p (sign_operator l g.sign_found)) u.tree_is ∙ absent.more_links_are l g.found p g.sign_found u.found

pub chain_more_read : (l : Level) (d : ℕ) (ts : List Shaped) (first : Plain) (links links' : Linked) (p : Place) (op : BinarySign) (next : List Shaped) (tree : Plain) (left : List Shaped) (p' : Place) (op' : BinarySign) (next' : List Shaped) → d ≤ 64 → ChainGoesOn l d ts first links p op next → PartReads l d next tree left → SplitsSign l left p' op' next' → links' ≡ more_links links p op tree → ChainGoesOn l d ts first links' p' op' next'
chain_more_read l d ts first links links' p op next tree left p' op' next' h g u s i = record {
  found = chain_more l g.found p g.sign_found u.found;
  sign_found = s.0;
  first_is = g.first_is ∙ absent.more_head l g.found p g.sign_found u.found;
  links_are = chain_links_more l d ts first links links' p op next tree left g u i;
  sign_is = s.2;
  shorter = omega (arith, g.shorter, u.shorter, ap length s.1);
  reads = λ C k. chain_then l d ts first links p op next tree left h g u C k ∙ ap (go (next_chain l (chain_more l g.found p g.sign_found u.found) C)) s.1;
}

pub chain_last_read : (l : Level) (d : ℕ) (ts : List Shaped) (first : Plain) (links links' : Linked) (p : Place) (op : BinarySign) (next : List Shaped) (tree : Plain) (left : List Shaped) (all : Plain) → d ≤ 64 → ChainGoesOn l d ts first links p op next → PartReads l d next tree left → LacksSign l left → links' ≡ more_links links p op tree → all ≡ chain first links' → ChainReads l d ts all left
chain_last_read l d ts first links links' p op next tree left all h g u k i a = record {
  found = chain_more l g.found p g.sign_found u.found;
  tree_is =
      a ∙ ap (λ x. chain x links') (g.first_is ∙ absent.more_head l g.found p g.sign_found u.found)
      ∙ ap (chain (chain_head l (chain_more l g.found p g.sign_found u.found))) (chain_links_more l d ts first links links' p op next tree left g u i)
      ∙ absent.more_tree l g.found p g.sign_found u.found;
  shorter = omega (arith, g.shorter, u.shorter);
  reads = λ C z. chain_then l d ts first links p op next tree left h g u C z ∙ absent.no_sign_here l left (chain_more l g.found p g.sign_found u.found) C k;
}

pub chain_first_fails : (l : Level) (d end : ℕ) (ts : List Shaped) (e : ParseError) → PartFails l d end ts e → ChainFails l d end ts e
chain_first_fails l d end ts e f = λ C k. f (chain_first l C) (absent.first_depth l C ∙ k)

pub chain_fails : (l : Level) (d end : ℕ) (ts : List Shaped) (first : Plain) (links : Linked) (p : Place) (op : BinarySign) (next : List Shaped) (e : ParseError) → d ≤ 64 → ChainGoesOn l d ts first links p op next → PartFails l d end next e → ChainFails l d end ts e
chain_fails l d end ts first links p op next e h g f = λ C k. absent.along end e _ _ (g.reads C k ∙ absent.sign_here l g.sign_found p next g.found d C k h) (f (chain_next l g.found p g.sign_found C) (absent.next_depth l g.found p g.sign_found C ∙ k))

-- what stands between operators
pub bar_part : (d : ℕ) (ts : List Shaped) (tree : Plain) (left : List Shaped) → ChainReads level.Either d ts tree left → PartReads level.Bar d ts tree left
bar_part d ts tree left u = record { found = u.found; tree_is = u.tree_is; shorter = u.shorter; reads = λ C e. u.reads C e }

pub either_part : (d : ℕ) (ts : List Shaped) (tree : Plain) (left : List Shaped) → ChainReads level.Both d ts tree left → PartReads level.Either d ts tree left
either_part d ts tree left u = record { found = u.found; tree_is = u.tree_is; shorter = u.shorter; reads = λ C e. u.reads C e }

pub sum_part : (d : ℕ) (ts : List Shaped) (tree : Plain) (left : List Shaped) → ChainReads level.Product d ts tree left → PartReads level.Sum d ts tree left
sum_part d ts tree left u = record { found = u.found; tree_is = u.tree_is; shorter = u.shorter; reads = λ C e. u.reads C e }

-- relation
pub relation_plain : (d : ℕ) (ts : List Shaped) (tree : Plain) (left : List Shaped) → ChainReads level.Sum d ts tree left → LacksRelop left → PartReads level.Both d ts tree left
relation_plain d ts tree left s h = record {
  found = no_relop s.found;
  tree_is = s.tree_is;
  shorter = s.shorter;
  reads = λ C e. s.reads (left_side C) e ∙ absent.no_sign_of_relation left s.found C (h.0 equals) (h.0 differs) (h.0 below) (h.0 at_most) (h.0 above) (h.0 at_least) h.1 h.2 h.3 h.4 h.5;
}

pub relation_relates : (d : ℕ) (ts : List Shaped) (tree : Plain) (left : List Shaped) (p : Place) (op : BinarySign) (next : List Shaped) (right : Plain) (left' : List Shaped) (all : Plain) → d ≤ 64 → ChainReads level.Sum d ts tree left → RelopReads left p op next → ChainReads level.Sum d next right left' → all ≡ chain tree (more_links no_links p op right) → PartReads level.Both d ts all left'
relation_relates d ts tree left p op next right left' all h s r t a = record {
  found = relates s.found r.found t.found;
  tree_is = a ∙ ap (λ x. chain x (more_links no_links p op right)) s.tree_is ∙ ap (λ x. chain (sum_tree s.found) (more_links no_links x op right)) r.place_is ∙ ap (λ x. chain (sum_tree s.found) (more_links no_links (relop_place r.found) x right)) r.sign_is ∙ ap (λ x. chain (sum_tree s.found) (more_links no_links (relop_place r.found) (relop_sign r.found) x)) t.tree_is;
  shorter = omega (arith, s.shorter, r.shorter, t.shorter);
  reads = λ C e. s.reads (left_side C) e ∙ r.reads s.found C (let g : depth_relation C ≤ 64 = omega arith in g) ∙ t.reads (right_side s.found r.found C) e;
}

pub relation_left_fails : (d end : ℕ) (ts : List Shaped) (e : ParseError) → ChainFails level.Sum d end ts e → PartFails level.Both d end ts e
relation_left_fails d end ts e f = λ C k. f (left_side C) k

pub relation_relop_fails : (d end : ℕ) (ts : List Shaped) (tree : Plain) (left : List Shaped) (e : ParseError) → d ≤ 64 → ChainReads level.Sum d ts tree left → RelopFails end left e → PartFails level.Both d end ts e
relation_relop_fails d end ts tree left e h s f = λ C k. absent.along end e _ _ (s.reads (left_side C) k) (f s.found C (let g : depth_relation C ≤ 64 = omega arith in g))

pub relation_right_fails : (d end : ℕ) (ts : List Shaped) (tree : Plain) (left : List Shaped) (p : Place) (op : BinarySign) (next : List Shaped) (e : ParseError) → d ≤ 64 → ChainReads level.Sum d ts tree left → RelopReads left p op next → ChainFails level.Sum d end next e → PartFails level.Both d end ts e
relation_right_fails d end ts tree left p op next e h s r f = λ C k. absent.along end e _ _ (s.reads (left_side C) k ∙ r.reads s.found C (let g : depth_relation C ≤ 64 = omega arith in g)) (f (right_side s.found r.found C) k)
