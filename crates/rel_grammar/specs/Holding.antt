-- What an argument, a filter or an object shows, which may be absent.
use Rattle.std.specs.Prelude.{Option, Some, None}
use Rattle.std.specs.declared.alloc.Global.{Global}
use Rattle.std.specs.declared.boxed.Box.{Box}
use Rattle.rel_grammar.specs.declared.tree.Tree.{Tree}
use Rattle.rel_grammar.specs.Trees.{Held, no_tree, a_tree}
use Rattle.rel_grammar.specs.Views.{shown}

-- what it shows, if there is one
abbrev pub shown_held : Option (Box Tree Global) → Held
shown_held None = no_tree
shown_held (Some b) = a_tree (shown b.value)
