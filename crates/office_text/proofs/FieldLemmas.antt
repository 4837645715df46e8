-- The fields of a first line have no spaces, so that they are read again from the line.
use Rattle.std.proofs.Common.{ℕ, ◌≡◌, ◌<◌, List, [], ◌∷◌, length, refl, sym, ap, ◌∙◌, arith, All, true}
use Rattle.std.specs.Prelude.{codes, decimal, nat_le}
use Rattle.std.specs.Fmt.{signed_decimal}
use Rattle.std.specs.List.{list_all}
use Rattle.std.proofs.lemmas.List.Elements.{All-nil, All-cons}
use Rattle.std.proofs.lemmas.Fmt.{decimal_injective}
use Rattle.line_forms.specs.FieldLists.{fields_of, line_of}
use Rattle.line_forms.specs.Names.{IsName}
use Rattle.line_forms.proofs.FieldReading.{fields_again}
use Rattle.line_forms.proofs.PlainLemmas.{IsPlain, plain_by, plain_decimal, plain_id, plain_moment, plain_name}
use Rattle.office_text.specs.declared.order.Order.{Order}
use Rattle.office_text.specs.declared.order.Order.TheVariants as order
use Rattle.office_text.specs.Orders.{IsAnyNumber, IsOrder}
use Rattle.office_text.specs.OrderLines.{first_fields, first_line, IsBody}
use Rattle.office_text.proofs.Fronts.{Lines}

plain_number : (number : ℕ) → IsAnyNumber number → IsPlain (decimal number)
plain_number number h = plain_decimal number (omega (arith, h))

-- what a number's field is of
pub number_one : (a b : ℕ) → IsAnyNumber a → IsAnyNumber b → decimal a ≡ decimal b → a ≡ b
number_one a b h k e = decimal_injective a b (omega (arith, h)) (omega (arith, k)) e

-- one, two and three fields
pub one_plain : (word : List ℕ) → list_all (λ x. nat_le 45 x) word ≡ true → All IsPlain (word ∷ [])
one_plain word h = All-cons IsPlain word [] (plain_by word h) (All-nil IsPlain)

pub two_plain : (word a : List ℕ) → list_all (λ x. nat_le 45 x) word ≡ true → IsPlain a → All IsPlain (word ∷ a ∷ [])
two_plain word a h k = All-cons IsPlain word (a ∷ []) (plain_by word h) (All-cons IsPlain a [] k (All-nil IsPlain))

pub three_plain : (word a b : List ℕ) → list_all (λ x. nat_le 45 x) word ≡ true → IsPlain a → IsPlain b → All IsPlain (word ∷ a ∷ b ∷ [])
three_plain word a b h k l = All-cons IsPlain word (a ∷ b ∷ []) (plain_by word h) (All-cons IsPlain a (b ∷ []) k (All-cons IsPlain b [] l (All-nil IsPlain)))

plain_first : (o : Order) (body : Lines) → IsOrder o → IsBody o body → All IsPlain (first_fields o)
plain_first (order.Publish text) body is has = one_plain (codes "publish") refl
plain_first (order.Act text) body is has = one_plain (codes "act") refl
plain_first (order.Stop id) body is has = two_plain (codes "stop") (decimal id) refl (plain_id id is)
plain_first (order.File bytes) body is has = one_plain (codes "file") refl
plain_first (order.Relay name) body is has = two_plain (codes "relay") name refl (plain_name name is)
plain_first (order.Computer name relay world) body is has = three_plain (codes "computer") name relay refl (plain_name name is.0) (plain_name relay is.1)
plain_first (order.Gather relay) body is has = two_plain (codes "gather") relay refl (plain_name relay is)
plain_first (order.Turn name moment) body is has = three_plain (codes "turn") name (signed_decimal moment) refl (plain_name name is.0) (plain_moment moment is.1)
plain_first (order.Restart name) body is has = two_plain (codes "restart") name refl (plain_name name is)
plain_first (order.Send name seq) body is has = three_plain (codes "send") name (decimal seq) refl (plain_name name is.0) (plain_number seq is.1)
plain_first (order.Push relay) body is has = two_plain (codes "push") relay refl (plain_name relay is)
plain_first (order.Deliver message) body is has = two_plain (codes "deliver") (decimal message) refl (plain_number message is)
plain_first (order.Report name) body is has = two_plain (codes "report") name refl (plain_name name is)
plain_first (order.Forward relay) body is has = two_plain (codes "forward") relay refl (plain_name relay is)
plain_first (order.Forget relay) body is has = two_plain (codes "forget") relay refl (plain_name relay is)
plain_first (order.Analysis analysis) body is has = one_plain (codes "analysis") refl
plain_first (order.Group group) body is has = two_plain (codes "group") group.name refl (plain_name group.name has.name)
plain_first (order.Measure name moment) body is has = three_plain (codes "measure") name (signed_decimal moment) refl (plain_name name is.0) (plain_moment moment is.1)
plain_first (order.Members group) body is has = two_plain (codes "members") group refl (plain_name group is)
plain_first (order.Target group text) body is has = two_plain (codes "target") group refl (plain_name group is)

some_first : (o : Order) → 0 < length (first_fields o)
some_first (order.Publish text) = omega arith
some_first other = omega arith

-- a first line has its fields, and no others
pub first_again : (o : Order) (body : Lines) → IsOrder o → IsBody o body → fields_of (first_line o) ≡ first_fields o
first_again o body is has = fields_again (first_fields o) (some_first o) (plain_first o body is has)

pub first_one : (a b : Order) (x y : Lines) → IsOrder a → IsOrder b → IsBody a x → IsBody b y → first_line a ≡ first_line b → first_fields a ≡ first_fields b
first_one a b x y is also h k e = sym (first_again a x is h) ∙ ap fields_of e ∙ first_again b y also k

-- those that it is made of
pub fields_known : (o : Order) (body fields : Lines) → IsOrder o → IsBody o body → 0 < length fields → All IsPlain fields → first_line o ≡ line_of fields → first_fields o ≡ fields
fields_known o body fields is has some plain e = sym (first_again o body is has) ∙ ap fields_of e ∙ fields_again fields some plain

-- `end` is the first line of no order, and neither is a line with the word of another
pub line_again : (line : List ℕ) → list_all (λ x. nat_le 45 x) line ≡ true → fields_of line ≡ line ∷ []
line_again line h = fields_again (line ∷ []) (omega arith) (one_plain line h)

-- two names
pub names_again : (name relay : List ℕ) → IsName name → IsName relay → fields_of (line_of (name ∷ relay ∷ [])) ≡ name ∷ relay ∷ []
names_again name relay is also = fields_again (name ∷ relay ∷ []) (omega arith) (All-cons IsPlain name (relay ∷ []) (plain_name name is) (All-cons IsPlain relay [] (plain_name relay also) (All-nil IsPlain)))
