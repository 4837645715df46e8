-- What a value and a kind of the code show.
use Rattle.std.specs.Prelude.{List, [], ◌∷◌}
use Rattle.rel_value.specs.declared.value.Value.{Value}
use Rattle.rel_value.specs.declared.value.Values.{Values, out-Values}
use Rattle.rel_value.specs.declared.value.Value.TheOpen.{Value-F, Boolean, Integer, Text, Part, Time, Interval, Version, File, Folder, Client, Setting, Process, Package, System, Action, Tuple, Values-F}
use Rattle.rel_value.specs.declared.value.Value.TheFolds.{fold-Value, fold-Values}
use Rattle.rel_value.specs.declared.kind.Kind.{Kind}
use Rattle.rel_value.specs.declared.kind.Kinds.{Kinds, out-Kinds}
use Rattle.rel_value.specs.declared.kind.Kind.TheOpen.{Kind-F, Kinds-F}
use Rattle.rel_value.specs.declared.kind.Kind.TheOpen as layer
use Rattle.rel_value.specs.declared.kind.Kind.TheFolds.{fold-Kind, fold-Kinds}
use Rattle.rel_value.specs.Plain.{Plain, boolean, integer, words, part, time, interval, version, file, folder, client, setting, process, a_package, system, action, tuple, Parts, no_parts, more_parts, PlainKind, booleans, integers, texts, text_parts, times, intervals, versions, files, folders, clients, settings, processes, packages, systems, actions, tuples, PlainKinds, no_kinds, more_kinds}

abbrev pub parted : Parts → List Plain → Parts
parted l [] = l
parted l (x ∷ xs) = parted (more_parts l x) xs

abbrev pub value_step : Value-F Plain Parts → Plain
value_step (Boolean b) = boolean b
value_step (Integer z) = integer z
value_step (Text t) = words t
value_step (Part w from to) = part w from to
value_step (Time z) = time z
value_step (Interval z) = interval z
value_step (Version ns) = version ns
value_step (File p) = file p
value_step (Folder p) = folder p
value_step Client = client
value_step (Setting n v d) = setting n v d
value_step (Process n) = process n
value_step (Package n v) = a_package n v
value_step (System n v) = system n v
value_step Action = action
value_step (Tuple ps) = tuple ps

abbrev pub values_step : Values-F Plain Parts → Parts
values_step l = parted no_parts l.items.items

abbrev pub shown : Value → Plain
shown = fold-Value Plain Parts value_step values_step

abbrev pub shown_parts : Values → Parts
shown_parts = fold-Values Plain Parts value_step values_step

-- the values of a list
abbrev pub value_items : Values → List Value
value_items l = (out-Values l).items.items

abbrev pub kinded : PlainKinds → List PlainKind → PlainKinds
kinded l [] = l
kinded l (x ∷ xs) = kinded (more_kinds l x) xs

abbrev pub kind_step : Kind-F PlainKind PlainKinds → PlainKind
kind_step layer.Boolean = booleans
kind_step layer.Integer = integers
kind_step layer.Text = texts
kind_step layer.Part = text_parts
kind_step layer.Time = times
kind_step layer.Interval = intervals
kind_step layer.Version = versions
kind_step layer.File = files
kind_step layer.Folder = folders
kind_step layer.Client = clients
kind_step layer.Setting = settings
kind_step layer.Process = processes
kind_step layer.Package = packages
kind_step layer.System = systems
kind_step layer.Action = actions
kind_step (layer.Tuple ks) = tuples ks

abbrev pub kinds_step : Kinds-F PlainKind PlainKinds → PlainKinds
kinds_step l = kinded no_kinds l.items.items

abbrev pub shown_kind : Kind → PlainKind
shown_kind = fold-Kind PlainKind PlainKinds kind_step kinds_step

abbrev pub shown_kinds : Kinds → PlainKinds
shown_kinds = fold-Kinds PlainKind PlainKinds kind_step kinds_step

-- the kinds of a list
abbrev pub kind_items : Kinds → List Kind
kind_items l = (out-Kinds l).items.items
