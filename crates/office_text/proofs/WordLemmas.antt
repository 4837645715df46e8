-- Which order a first line is of, by its word.
use Rattle.std.proofs.Common.{ℕ, ◌≡◌, ◌+◌, ◌*◌, ℤ, List, [], ◌∷◌, get_or, refl, ap, arith}
use Rattle.std.specs.Prelude.{codes, sum}
use Rattle.bf_world.specs.Worlds.{WorldState}
use Rattle.group_text.specs.declared.analysis.Analysis.{Analysis}
use Rattle.group_text.specs.declared.group.Group.{Group}
use Rattle.office_text.specs.declared.order.Order.{Order}
use Rattle.office_text.specs.declared.order.Order.TheVariants as order
use Rattle.office_text.specs.OrderLines.{first_fields}
use Rattle.office_text.proofs.Fronts.{Lines}

-- the sum of a line's first word, and its first byte in the thousands: another number for each word
abbrev pub word_sum : Lines → ℕ
word_sum [] = 0
word_sum (word ∷ rest) = sum word + 1000 * get_or word 0 0

pub of_publish : (o : Order) (rest : Lines) → first_fields o ≡ codes "publish" ∷ rest → (text : List ℕ) × (o ≡ order.Publish text)
of_publish (order.Publish text) rest e = (text, refl)
of_publish other rest e = let s : word_sum (first_fields other) ≡ 112759 = ap word_sum e in absurd (omega arith)

pub of_act : (o : Order) (rest : Lines) → first_fields o ≡ codes "act" ∷ rest → (text : List ℕ) × (o ≡ order.Act text)
of_act (order.Act text) rest e = (text, refl)
of_act other rest e = let s : word_sum (first_fields other) ≡ 97312 = ap word_sum e in absurd (omega arith)

pub of_stop : (o : Order) (rest : Lines) → first_fields o ≡ codes "stop" ∷ rest → (id : ℕ) × (o ≡ order.Stop id)
of_stop (order.Stop id) rest e = (id, refl)
of_stop other rest e = let s : word_sum (first_fields other) ≡ 115454 = ap word_sum e in absurd (omega arith)

pub of_file : (o : Order) (rest : Lines) → first_fields o ≡ codes "file" ∷ rest → (bytes : List ℕ) × (o ≡ order.File bytes)
of_file (order.File bytes) rest e = (bytes, refl)
of_file other rest e = let s : word_sum (first_fields other) ≡ 102416 = ap word_sum e in absurd (omega arith)

pub of_relay : (o : Order) (rest : Lines) → first_fields o ≡ codes "relay" ∷ rest → (name : List ℕ) × (o ≡ order.Relay name)
of_relay (order.Relay name) rest e = (name, refl)
of_relay other rest e = let s : word_sum (first_fields other) ≡ 114541 = ap word_sum e in absurd (omega arith)

pub of_computer : (o : Order) (rest : Lines) → first_fields o ≡ codes "computer" ∷ rest → (name : List ℕ) × (relay : List ℕ) × (world : WorldState) × (o ≡ order.Computer name relay world)
of_computer (order.Computer name relay world) rest e = (name, relay, world, refl)
of_computer other rest e = let s : word_sum (first_fields other) ≡ 99879 = ap word_sum e in absurd (omega arith)

pub of_gather : (o : Order) (rest : Lines) → first_fields o ≡ codes "gather" ∷ rest → (relay : List ℕ) × (o ≡ order.Gather relay)
of_gather (order.Gather relay) rest e = (relay, refl)
of_gather other rest e = let s : word_sum (first_fields other) ≡ 103635 = ap word_sum e in absurd (omega arith)

pub of_turn : (o : Order) (rest : Lines) → first_fields o ≡ codes "turn" ∷ rest → (name : List ℕ) × (moment : ℤ) × (o ≡ order.Turn name moment)
of_turn (order.Turn name moment) rest e = (name, moment, refl)
of_turn other rest e = let s : word_sum (first_fields other) ≡ 116457 = ap word_sum e in absurd (omega arith)

pub of_restart : (o : Order) (rest : Lines) → first_fields o ≡ codes "restart" ∷ rest → (name : List ℕ) × (o ≡ order.Restart name)
of_restart (order.Restart name) rest e = (name, refl)
of_restart other rest e = let s : word_sum (first_fields other) ≡ 114773 = ap word_sum e in absurd (omega arith)

pub of_send : (o : Order) (rest : Lines) → first_fields o ≡ codes "send" ∷ rest → (name : List ℕ) × (seq : ℕ) × (o ≡ order.Send name seq)
of_send (order.Send name seq) rest e = (name, seq, refl)
of_send other rest e = let s : word_sum (first_fields other) ≡ 115426 = ap word_sum e in absurd (omega arith)

pub of_push : (o : Order) (rest : Lines) → first_fields o ≡ codes "push" ∷ rest → (relay : List ℕ) × (o ≡ order.Push relay)
of_push (order.Push relay) rest e = (relay, refl)
of_push other rest e = let s : word_sum (first_fields other) ≡ 112448 = ap word_sum e in absurd (omega arith)

pub of_deliver : (o : Order) (rest : Lines) → first_fields o ≡ codes "deliver" ∷ rest → (message : ℕ) × (o ≡ order.Deliver message)
of_deliver (order.Deliver message) rest e = (message, refl)
of_deliver other rest e = let s : word_sum (first_fields other) ≡ 100747 = ap word_sum e in absurd (omega arith)

pub of_report : (o : Order) (rest : Lines) → first_fields o ≡ codes "report" ∷ rest → (name : List ℕ) × (o ≡ order.Report name)
of_report (order.Report name) rest e = (name, refl)
of_report other rest e = let s : word_sum (first_fields other) ≡ 114668 = ap word_sum e in absurd (omega arith)

pub of_forward : (o : Order) (rest : Lines) → first_fields o ≡ codes "forward" ∷ rest → (relay : List ℕ) × (o ≡ order.Forward relay)
of_forward (order.Forward relay) rest e = (relay, refl)
of_forward other rest e = let s : word_sum (first_fields other) ≡ 102757 = ap word_sum e in absurd (omega arith)

pub of_forget : (o : Order) (rest : Lines) → first_fields o ≡ codes "forget" ∷ rest → (relay : List ℕ) × (o ≡ order.Forget relay)
of_forget (order.Forget relay) rest e = (relay, refl)
of_forget other rest e = let s : word_sum (first_fields other) ≡ 102647 = ap word_sum e in absurd (omega arith)

pub of_analysis : (o : Order) (rest : Lines) → first_fields o ≡ codes "analysis" ∷ rest → (analysis : Analysis) × (o ≡ order.Analysis analysis)
of_analysis (order.Analysis analysis) rest e = (analysis, refl)
of_analysis other rest e = let s : word_sum (first_fields other) ≡ 97868 = ap word_sum e in absurd (omega arith)

pub of_group : (o : Order) (rest : Lines) → first_fields o ≡ codes "group" ∷ rest → (group : Group) × (o ≡ order.Group group)
of_group (order.Group group) rest e = (group, refl)
of_group other rest e = let s : word_sum (first_fields other) ≡ 103557 = ap word_sum e in absurd (omega arith)

pub of_measure : (o : Order) (rest : Lines) → first_fields o ≡ codes "measure" ∷ rest → (name : List ℕ) × (moment : ℤ) × (o ≡ order.Measure name moment)
of_measure (order.Measure name moment) rest e = (name, moment, refl)
of_measure other rest e = let s : word_sum (first_fields other) ≡ 109754 = ap word_sum e in absurd (omega arith)

pub of_members : (o : Order) (rest : Lines) → first_fields o ≡ codes "members" ∷ rest → (group : List ℕ) × (o ≡ order.Members group)
of_members (order.Members group) rest e = (group, refl)
of_members other rest e = let s : word_sum (first_fields other) ≡ 109747 = ap word_sum e in absurd (omega arith)

pub of_target : (o : Order) (rest : Lines) → first_fields o ≡ codes "target" ∷ rest → (group : List ℕ) × (text : List ℕ) × (o ≡ order.Target group text)
of_target (order.Target group text) rest e = (group, text, refl)
of_target other rest e = let s : word_sum (first_fields other) ≡ 116647 = ap word_sum e in absurd (omega arith)

-- the last line of an office is the first one of no order
pub not_end : (o : Order) (rest : Lines) → first_fields o ≡ codes "end" ∷ rest → ⊥
not_end (order.Publish text) rest e = let s : word_sum (first_fields (order.Publish text)) ≡ 101311 = ap word_sum e in omega arith
not_end other rest e = let s : word_sum (first_fields other) ≡ 101311 = ap word_sum e in omega arith
