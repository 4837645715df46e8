-- What a plan shows.
use Rattle.rel_types.specs.declared.plan.Plan.{Plan}
use Rattle.rel_types.specs.Plans.{PlainNode}
use Rattle.rel_types.specs.Views.{shown_node}

-- the node of the whole question
abbrev pub shown_plan : Plan → PlainNode
shown_plan plan = shown_node plan.root
