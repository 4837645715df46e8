-- The tree that a tree in memory shows: the same one, without where it lies. Each step below turns one node into one.
use Rattle.std.specs.Prelude.{List, [], ◌∷◌, Option, Some, None}
use Rattle.std.specs.declared.alloc.Global.{Global}
use Rattle.std.specs.declared.boxed.Box.{Box}
use Rattle.rel_lexer.specs.declared.place.Place.{Place}
use Rattle.rel_lexer.specs.declared.operator.BinarySign.{BinarySign}
use Rattle.rel_grammar.specs.declared.tree.Tree.{Tree}
use Rattle.rel_grammar.specs.declared.tree.Link2.{Link2}
use Rattle.rel_grammar.specs.declared.tree.LinkList.{LinkList, out-LinkList}
use Rattle.rel_grammar.specs.declared.tree.TreeList.{TreeList, out-TreeList}
use Rattle.rel_grammar.specs.declared.tree.Tree.TheOpen.{Tree-F, Number, Literal, It, Phrase, Body, Cast, Unary, Chain, If, Tuple, Collection, Link2-F, LinkList-F, TreeList-F}
use Rattle.rel_grammar.specs.declared.tree.Tree.TheFolds.{fold-Tree, fold-Link2, fold-LinkList, fold-TreeList}
use Rattle.rel_grammar.specs.Trees.{Plain, numeral, literal, it, phrase, body, cast, unary, chain, conditional, tuple, collection, Held, no_tree, a_tree, Linked, no_links, more_links, Parts, no_parts, more_parts}

-- a link of a chain
abbrev pub PlainLink : Type 0
PlainLink = Place × BinarySign × Plain

-- links at the end of others
abbrev pub linked : Linked → List PlainLink → Linked
linked l [] = l
linked l (x ∷ xs) = linked (more_links l x.0 x.1 x.2) xs

-- parts at the end of others
abbrev pub parted : Parts → List Plain → Parts
parted l [] = l
parted l (x ∷ xs) = parted (more_parts l x) xs

-- what may be absent
abbrev pub held : Option (Box Plain Global) → Held
held None = no_tree
held (Some b) = a_tree b.value

abbrev pub tree_step : Tree-F Plain PlainLink Linked Parts → Plain
tree_step (Number p n) = numeral p n
tree_step (Literal p t) = literal p t
tree_step (It p) = it p
tree_step (Phrase p w a f o) = phrase p w (held a) (held f) (held o)
tree_step (Body p b f o) = body p b.value (held f) (held o)
tree_step (Cast b cs) = cast b.value cs
tree_step (Unary p s r) = unary p s r.value
tree_step (Chain b r) = chain b.value r
tree_step (If p t y n) = conditional p t.value y.value n.value
tree_step (Tuple ps) = tuple ps
tree_step (Collection ps) = collection ps

abbrev pub link_step : Link2-F Plain PlainLink Linked Parts → PlainLink
link_step l = (l.place, l.sign, l.right)

abbrev pub links_step : LinkList-F Plain PlainLink Linked Parts → Linked
links_step l = linked no_links l.items.items

abbrev pub trees_step : TreeList-F Plain PlainLink Linked Parts → Parts
trees_step l = parted no_parts l.items.items

-- what a tree shows
abbrev pub shown : Tree → Plain
shown = fold-Tree Plain PlainLink Linked Parts tree_step link_step links_step trees_step

abbrev pub shown_link : Link2 → PlainLink
shown_link = fold-Link2 Plain PlainLink Linked Parts tree_step link_step links_step trees_step

abbrev pub shown_links : LinkList → Linked
shown_links = fold-LinkList Plain PlainLink Linked Parts tree_step link_step links_step trees_step

abbrev pub shown_parts : TreeList → Parts
shown_parts = fold-TreeList Plain PlainLink Linked Parts tree_step link_step links_step trees_step

-- the trees of a list, and the links of one
abbrev pub tree_items : TreeList → List Tree
tree_items l = (out-TreeList l).items.items

abbrev pub link_items : LinkList → List Link2
link_items l = (out-LinkList l).items.items
