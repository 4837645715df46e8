-- In every office that is played the properties have distinct names, and so have the groups.
use Rattle.std.proofs.Common.{ℕ, inl, inr, List, sym, subst}
use Rattle.std.specs.List.{IsDistinct}
use Rattle.std.proofs.lemmas.List.Elements.{All-nil}
use Rattle.group_text.specs.declared.property.Property.{Property}
use Rattle.group_text.specs.Properties.{IsQuestion}
use Rattle.relay_core.specs.Relays.{RelayState}
use Rattle.delivery.specs.Messages.{Message}
use Rattle.office_text.specs.declared.order.Order.{Order}
use Rattle.office_text.specs.declared.order.Order.TheVariants as order
use Rattle.office_rules.specs.Deeds.{AtComputer, AtRelay, DoesEach}
use Rattle.office_rules.specs.GroupWords.{TargetsGroup}
use Rattle.office_rules.specs.MessageWords.{Delivers}
use Rattle.office_rules.specs.Offices.{Office, PlayedComputer, empty_office}
use Rattle.office_rules.specs.Plays.{Obeys, PlaysOrder}
use Rattle.office_rules.proofs.KeptDeeds.{Keeps, KeepsFrom, delivers_keep, each_keeps, forwards_keep, pushes_keep, reports_keep, sends_keep, stays}
use Rattle.office_rules.proofs.OneGroupWord.{IsWellNamed, analysis_named, group_named, measures_named}

abbrev pub HasNames : Office → Type 0
HasNames o = IsWellNamed o.book

pub empty_named : HasNames empty_office
unfolding IsDistinct
empty_named = record { properties = record { distinct = tt; questions = All-nil (λ (p : Property). IsQuestion p.question) }; groups = tt }

-- ---- deeds
at_relay : (name : List ℕ) (Does : RelayState → List ℕ → RelayState → Type 0) (old : Office) → KeepsFrom HasNames old (AtRelay name Does)
at_relay name Does old said new h (relay, then, here, does, is) = stays HasNames _ new is h

at_computer : (name : List ℕ) (Does : PlayedComputer → List ℕ → PlayedComputer → Type 0) (old : Office) → KeepsFrom HasNames old (AtComputer name Does)
at_computer name Does old said new h (computer, then, here, does, is) = stays HasNames _ new is h

sent_named : (old : Office) (messages : List Message) → HasNames old → HasNames old
sent_named old messages h = h

arrives_named : (number : ℕ) (message : Message) → Keeps HasNames (Delivers number message)
arrives_named number message old said new h p = subst IsWellNamed (sym p.reaches.book) h

targets_named : (name text : List ℕ) → Keeps HasNames (TargetsGroup name text)
targets_named name text old said new h (inl (none, is, same)) = stays HasNames old new same h
targets_named name text old said new h (inr (first, more, are, asks)) = stays HasNames _ new asks.new_is h

-- ---- orders
obeys_named : (what : Order) → Keeps HasNames (Obeys what)
obeys_named (order.Publish text) = λ old said new h p. stays HasNames _ new p.new_is h
obeys_named (order.Act text) = λ old said new h p. stays HasNames _ new p.new_is h
obeys_named (order.Stop id) = λ old said new h p. stays HasNames _ new p.new_is h
obeys_named (order.File bytes) = λ old said new h p. stays HasNames _ new p.new_is h
obeys_named (order.Relay name) = λ old said new h p. stays HasNames _ new p.1 h
obeys_named (order.Computer name relay world) = λ old said new h p. stays HasNames _ new p.1 h
obeys_named (order.Gather relay) = λ old. at_relay relay _ old
obeys_named (order.Turn name moment) = λ old. at_computer name _ old
obeys_named (order.Restart name) = λ old. at_computer name _ old
obeys_named (order.Send name seq) = sends_keep HasNames sent_named name seq
obeys_named (order.Push relay) = pushes_keep HasNames sent_named relay
obeys_named (order.Deliver message) = delivers_keep HasNames sent_named arrives_named message
obeys_named (order.Report name) = reports_keep HasNames sent_named arrives_named name
obeys_named (order.Forward relay) = forwards_keep HasNames sent_named arrives_named relay
obeys_named (order.Forget relay) = λ old. at_relay relay _ old
obeys_named (order.Analysis analysis) = analysis_named analysis
obeys_named (order.Group group) = group_named group
obeys_named (order.Measure name moment) = measures_named name moment
obeys_named (order.Members name) = λ old said new h p. stays HasNames _ new p.0 h
obeys_named (order.Target name text) = targets_named name text

pub plays_named : (what : Order) → Keeps HasNames (PlaysOrder what)
plays_named what old said new h p = obeys_named what old said new h p.obeys

pub all_named : (orders : List Order) (said : List ℕ) (new : Office) → DoesEach PlaysOrder orders empty_office said new → HasNames new
all_named orders said new p = each_keeps HasNames PlaysOrder plays_named orders empty_office said new empty_named p
