-- What an evaluation rests on: the kind and the number of each node are those that its parts give, and each part is what the part
-- around it asks for. `it` has the kind that is handed down, if there is one.
use Rattle.std.specs.Prelude.{◌≡◌, ℕ, Bool, true, false, ◌||◌, List, [], ◌∷◌, Option, Some}
use Rattle.rel_lexer.specs.declared.operator.BinarySign.{BinarySign}
use Rattle.rel_lexer.specs.declared.operator.BinarySign.TheVariants as sign
use Rattle.rel_lexer.specs.declared.operator.UnarySign.{UnarySign}
use Rattle.rel_lexer.specs.declared.operator.UnarySign.TheVariants as one_operand
use Rattle.rel_value.specs.Plain.{PlainKind, booleans, integers, texts}
use Rattle.rel_value.specs.Kinds.{binary_kind, cast_kind}
use Rattle.rel_types.specs.declared.cast_steps.CastStep.{CastStep}
use Rattle.rel_types.specs.Plans.{PlainNode, node, kind_of, is_plural, PlainForm, numeral, literal, it, phrase, body, cast, unary, chain, conditional, tuple, collection, HeldNode, no_node, a_node, held_plural, LinkedNodes, no_links, more_links, Nodes, no_nodes, more_nodes, first_kind, tuple_kind, any_plural}
use Rattle.rel_types.specs.Heads.{Headed, head_of}
use Rattle.rel_types.specs.Signs.{unary_kind}
use Rattle.rel_types.specs.Typing.{it_inside}

abbrev pub IsSingular : PlainNode → Type 0
IsSingular n = is_plural n ≡ false

-- it is what some words stand for with this argument and this object
abbrev pub IsHeadOf : HeldNode → HeldNode → Headed → Type 0
IsHeadOf argument object headed = (words : List ℕ) × (head_of words argument object ≡ Some headed)

-- each cast has a row for what the one before it gives, from the first kind to the last
abbrev pub CastsAgree : PlainKind → List CastStep → PlainKind → Type 0
CastsAgree from [] to = from ≡ to
CastsAgree from (c ∷ cs) to = (next : PlainKind) × (cast_kind c.cast from ≡ Some next) × CastsAgree next cs to

-- the sides of `|` have one kind, which it gives; every other sign has a row for the kinds of its sides
abbrev pub SignAgrees : BinarySign → PlainKind → PlainKind → PlainKind → Type 0
SignAgrees sign.Bar left right k = (left ≡ right) × (left ≡ k)
SignAgrees s left right k = binary_kind s left right ≡ Some k

-- `exists` takes any number of values; every other sign takes one
abbrev pub OperandAgrees : UnarySign → PlainNode → Type 0
OperandAgrees one_operand.Exists n = Unit {0}
OperandAgrees one_operand.Exist n = Unit {0}
OperandAgrees _ n = IsSingular n

-- they all have this kind
abbrev pub AreOf : PlainKind → Nodes → Type 0
AreOf k no_nodes = Unit {0}
AreOf k (more_nodes ns n) = AreOf k ns × (k ≡ kind_of n)

abbrev mutual
  pub Agrees : Option PlainKind → PlainNode → Type 0
  Agrees i (node k plural form) = FormAgrees i k plural form

  -- what gives the values, for this kind and number
  pub FormAgrees : Option PlainKind → PlainKind → Bool → PlainForm → Type 0
  FormAgrees i k plural (numeral p n) = (k ≡ integers) × (plural ≡ false)
  FormAgrees i k plural (literal p t) = (k ≡ texts) × (plural ≡ false)
  FormAgrees i k plural (it p) = (i ≡ Some k) × (plural ≡ false)
  FormAgrees i k plural (phrase p h a f o) = ArgumentAgrees i a × ObjectAgrees i o × IsHeadOf a o (record { head = h; plural = plural; kind = k }) × FilterAgrees k f
  FormAgrees i k plural (body p b f o) = ObjectAgrees i o × Agrees (it_inside i o) b × (kind_of b ≡ k) × ((is_plural b || held_plural o) ≡ plural) × FilterAgrees k f
  FormAgrees i k plural (cast b cs) = Agrees i b × IsSingular b × CastsAgree (kind_of b) cs k × (plural ≡ false)
  FormAgrees i k plural (unary p s b) = Agrees i b × OperandAgrees s b × (unary_kind s (kind_of b) ≡ Some k) × (plural ≡ false)
  FormAgrees i k plural (chain b ls) = Agrees i b × IsSingular b × LinksAgree i (kind_of b) ls k × (plural ≡ false)
  FormAgrees i k plural (conditional p t y n) = Agrees i t × IsSingular t × (booleans ≡ kind_of t) × Agrees i y × Agrees i n × (kind_of y ≡ k) × (k ≡ kind_of n) × ((is_plural y || is_plural n) ≡ plural)
  FormAgrees i k plural (tuple ns) = NodesAgree i ns × (tuple_kind ns ≡ Some k) × (any_plural ns ≡ plural)
  FormAgrees i k plural (collection ns) = NodesAgree i ns × (first_kind ns ≡ Some k) × AreOf k ns × (plural ≡ true)

  -- an argument is singular
  pub ArgumentAgrees : Option PlainKind → HeldNode → Type 0
  ArgumentAgrees i no_node = Unit {0}
  ArgumentAgrees i (a_node n) = Agrees i n × IsSingular n

  pub ObjectAgrees : Option PlainKind → HeldNode → Type 0
  ObjectAgrees i no_node = Unit {0}
  ObjectAgrees i (a_node n) = Agrees i n

  -- a filter of values of this kind is singular and Boolean
  pub FilterAgrees : PlainKind → HeldNode → Type 0
  FilterAgrees k no_node = Unit {0}
  FilterAgrees k (a_node n) = Agrees (Some k) n × IsSingular n × (booleans ≡ kind_of n)

  -- the operands behind the first, which is of the first kind; the chain gives the last kind
  pub LinksAgree : Option PlainKind → PlainKind → LinkedNodes → PlainKind → Type 0
  LinksAgree i first no_links k = first ≡ k
  LinksAgree i first (more_links ls p s n) k = (left : PlainKind) × LinksAgree i first ls left × Agrees i n × IsSingular n × SignAgrees s left (kind_of n) k

  pub NodesAgree : Option PlainKind → Nodes → Type 0
  NodesAgree i no_nodes = Unit {0}
  NodesAgree i (more_nodes ns n) = NodesAgree i ns × Agrees i n
