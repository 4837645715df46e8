-- The words of groups come to one thing, from a book whose properties and groups have distinct names.
use Rattle.std.proofs.Common.{◌≡◌, ◌≢◌, ℕ, zero, suc, ◌≤◌, ℤ, Bool, true, false, cond, inl, inr, List, [], ◌∷◌, ◌++◌, length, map, All, Contains, bytes_eq, Some, refl, sym, ap, subst, ◌∙◌, arith}
use Rattle.std.specs.Prelude.{codes, decimal}
use Rattle.std.specs.Fmt.{signed_decimal}
use Rattle.std.specs.List.{AllByRecursion, IsDistinct}
use Rattle.std.proofs.lemmas.List.Elements.{All-contains, All-head, All-tail, Contains-append_right}
use Rattle.std.proofs.lemmas.Slice.Eq.{bytes_eq-Decides}
use Rattle.std.proofs.lemmas.Bool.{true≢false}
use Rattle.bf_world.specs.Worlds.{WorldState}
use Rattle.bf_machine.specs.Rises.{RoseBy}
use Rattle.bf_machine.specs.Views.{MachineView}
use Rattle.group_text.specs.declared.analysis.Analysis.{Analysis}
use Rattle.group_text.specs.declared.group.Group.{Group}
use Rattle.group_text.specs.declared.property.Property.{Property}
use Rattle.group_text.specs.Properties.{AreProperties}
use Rattle.group_sample.specs.declared.sample.Sample.{Sample}
use Rattle.group_sample.specs.declared.analyst.Taken.{Taken}
use Rattle.group_sample.specs.declared.analyst.Taken.TheVariants as taken
use Rattle.group_sample.specs.Due.{AnalystState, due_of}
use Rattle.group_sample.specs.Samples.{GivesTaken, HasNotFailed, Takes}
use Rattle.group_core.specs.declared.book.Added.{Added}
use Rattle.group_core.specs.declared.book.Added.TheVariants as added
use Rattle.group_core.specs.declared.book.Defined.{Defined}
use Rattle.group_core.specs.declared.book.Defined.TheVariants as defined
use Rattle.group_core.specs.Books.{AddsAnalysis, AreNew, BookState, DefinesGroup, HasGroup, HasMembers, HasPlace, IsFirstTaken, IsKept, IsTaken, with_group}
use Rattle.group_core.specs.Members.{AreMembers}
use Rattle.group_core.proofs.AddLemmas.{one_named, properties_with}
use Rattle.server_text.specs.declared.request.Request.TheVariants as request
use Rattle.delivery.specs.Messages.{named}
use Rattle.office_rules.specs.ComputerWords.{devices_of}
use Rattle.office_rules.specs.GroupWords.{HasNoMember, KeepsAnalysis, KeepsGroup, Measures, MeasuresComputer, PutsTaken, SaysMembers, TargetsGroup, added_words, aimed, defined_words, members_lines, rows_taken}
use Rattle.office_rules.specs.Offices.{Office, PlayedComputer, with_computer}
use Rattle.office_rules.specs.OfficeLines.{about_line}
use Rattle.office_rules.specs.ServerWords.{AsksServer}
use Rattle.office_rules.proofs.OneDeed.{IsOneFrom, found_once}
use Rattle.office_rules.proofs.OneServerWord.{OneMeaning, asks_once}

abbrev group_names : List Group → List (List ℕ)
group_names groups = map (λ (g : Group). g.name) groups

-- the properties of a book have distinct names, and so have its groups
pub record IsWellNamed (book : BookState) : Type 0 where
  pub properties : AreProperties book.properties
  pub groups : IsDistinct bytes_eq (group_names book.groups)

-- ---- analysis
all_kept_free : (kept : List Property) (p : Property) → AreProperties kept → IsKept kept p → IsTaken kept p → ⊥
all_kept_free kept p good is taken = taken.differs (one_named kept taken.other p good.distinct taken.among is taken.same_name)

-- the first that is taken is one of them
among : (kept ps : List Property) (name : List ℕ) (f : IsFirstTaken kept ps name) → Contains ps f.first
among kept ps name f = subst (λ (l : List Property). Contains l f.first) (sym f.properties_are) (Contains-append_right f.before (f.first ∷ f.after) f.first (zero, omega arith, refl))

not_kept : (kept ps : List Property) (name : List ℕ) → AreProperties kept → All (IsKept kept) ps → IsFirstTaken kept ps name → ⊥
not_kept kept ps name good all f = all_kept_free kept f.first good (All-contains (IsKept kept) ps f.first all (among kept ps name f)) f.taken

not_free : (kept ps : List Property) (name : List ℕ) → AreNew kept ps → IsFirstTaken kept ps name → ⊥
not_free kept ps name new f = All-contains (λ p. ¬ IsTaken kept p) ps f.first new.free (among kept ps name f) f.taken

heads : {X : Type 0} (x y : X) (xs ys : List X) → x ∷ xs ≡ y ∷ ys → x ≡ y
heads x y xs ys e = cc

tails : {X : Type 0} (x y : X) (xs ys : List X) → x ∷ xs ≡ y ∷ ys → xs ≡ ys
tails x y xs ys e = cc

-- of one list the first that is so is one
first_once : {X : Type 0} (P : X → Type 0) (before far : List X) (x y : X) (after then : List X) → before ++ x ∷ after ≡ far ++ y ∷ then → All (λ z. ¬ P z) before → All (λ z. ¬ P z) far → P x → P y → x ≡ y
first_once P [] [] x y after then e none free p q = heads x y after then e
first_once P [] (z ∷ far) x y after then e none free p q = absurd (All-head (λ w. ¬ P w) z far free (subst P (heads x z after (far ++ y ∷ then) e) p))
first_once P (z ∷ before) [] x y after then e none free p q = absurd (All-head (λ w. ¬ P w) z before none (subst P (sym (heads z y (before ++ x ∷ after) then e)) q))
first_once P (z ∷ before) (w ∷ far) x y after then e none free p q =
    first_once P before far x y after then (tails z w (before ++ x ∷ after) (far ++ y ∷ then) e) (All-tail (λ v. ¬ P v) z before none) (All-tail (λ v. ¬ P v) w far free) p q

taken_once : (kept ps : List Property) (name other : List ℕ) → IsFirstTaken kept ps name → IsFirstTaken kept ps other → name ≡ other
taken_once kept ps name other f g =
    f.name_is ∙ ap (λ (p : Property). p.name) (first_once (IsTaken kept) f.before g.before f.first g.first f.after g.after (sym f.properties_are ∙ g.properties_are) f.free g.free f.taken g.taken) ∙ sym g.name_is

adds_once : (old : BookState) (analysis : Analysis) (a b : Added) (new two : BookState) → AreProperties old.properties → a ≢ added.Memory → b ≢ added.Memory → AddsAnalysis old analysis a new → AddsAnalysis old analysis b two → (a ≡ b) × (new ≡ two)
adds_once old analysis added.Again added.Again new two good x y p q = (refl, p.1 ∙ sym q.1)
adds_once old analysis added.Again (added.Taken name) new two good x y p q = absurd (not_kept old.properties analysis.properties name good p.0 q.0)
adds_once old analysis added.Again (added.Full limit) new two good x y p q = absurd (q.0.some p.0)
adds_once old analysis added.Again added.Ok new two good x y p q = absurd (q.0.some p.0)
adds_once old analysis (added.Taken name) added.Again new two good x y p q = absurd (not_kept old.properties analysis.properties name good q.0 p.0)
adds_once old analysis (added.Taken name) (added.Taken other) new two good x y p q = (ap added.Taken (taken_once old.properties analysis.properties name other p.0 q.0), p.1 ∙ sym q.1)
adds_once old analysis (added.Taken name) (added.Full limit) new two good x y p q = absurd (not_free old.properties analysis.properties name q.0 p.0)
adds_once old analysis (added.Taken name) added.Ok new two good x y p q = absurd (not_free old.properties analysis.properties name q.0 p.0)
adds_once old analysis (added.Full limit) added.Again new two good x y p q = absurd (p.0.some q.0)
adds_once old analysis (added.Full limit) (added.Taken name) new two good x y p q = absurd (not_free old.properties analysis.properties name p.0 q.0)
adds_once old analysis (added.Full limit) (added.Full other) new two good x y (are, is, more, stays) (are', is', more', stays') = (ap added.Full (is ∙ sym is'), stays ∙ sym stays')
adds_once old analysis (added.Full limit) added.Ok new two good x y (are, is, more, stays) (are', few, grows) = absurd (omega (arith, more, few))
adds_once old analysis added.Ok added.Again new two good x y p q = absurd (p.0.some q.0)
adds_once old analysis added.Ok (added.Taken name) new two good x y p q = absurd (not_free old.properties analysis.properties name p.0 q.0)
adds_once old analysis added.Ok (added.Full limit) new two good x y (are', few, grows) (are, is, more, stays) = absurd (omega (arith, more, few))
adds_once old analysis added.Ok added.Ok new two good x y (are, few, grows) (are', few', grows') = (refl, grows ∙ sym grows')
adds_once old analysis added.Memory b new two good x y p q = absurd (x refl)
adds_once old analysis added.Again added.Memory new two good x y p q = absurd (y refl)
adds_once old analysis (added.Taken name) added.Memory new two good x y p q = absurd (y refl)
adds_once old analysis (added.Full limit) added.Memory new two good x y p q = absurd (y refl)
adds_once old analysis added.Ok added.Memory new two good x y p q = absurd (y refl)

pub analysis_once : (analysis : Analysis) (old : Office) → IsWellNamed old.book → IsOneFrom old (KeepsAnalysis analysis)
analysis_once analysis old good said other new two p q =
    let same = adds_once old.book analysis p.answer q.answer p.book q.book good.properties p.memory q.memory p.adds q.adds in
    (p.said_is ∙ ap (λ (a : Added). about_line (codes "analysis" ∷ []) (added_words a)) same.0 ∙ sym q.said_is, p.new_is ∙ ap (λ (b : BookState). record old { book = b }) same.1 ∙ sym q.new_is)

adds_names : (old : BookState) (analysis : Analysis) (a : Added) (new : BookState) → AreProperties analysis.properties → IsWellNamed old → AddsAnalysis old analysis a new → IsWellNamed new
adds_names old analysis added.Again new more good p = subst IsWellNamed (sym p.1) good
adds_names old analysis (added.Taken name) new more good p = subst IsWellNamed (sym p.1) good
adds_names old analysis (added.Full limit) new more good (are, is, few, stays) = subst IsWellNamed (sym stays) good
adds_names old analysis added.Ok new more good (are, few, grows) = subst IsWellNamed (sym grows) (record { properties = properties_with old.properties analysis.properties good.properties more; groups = good.groups })
adds_names old analysis added.Memory new more good p = subst IsWellNamed (sym p) good

pub analysis_named : (analysis : Analysis) (old : Office) (said : List ℕ) (new : Office) → IsWellNamed old.book → KeepsAnalysis analysis old said new → IsWellNamed new.book
analysis_named analysis old said new good p = subst (λ (o : Office). IsWellNamed o.book) (sym p.new_is) (adds_names old.book analysis p.answer p.book p.good good p.adds)

-- ---- group
named_group : (groups : List Group) (g : Group) → Contains groups g → HasGroup groups g.name
named_group [] g (k, inside, at) = absurd (omega (arith, inside))
named_group (x ∷ groups) g (zero, inside, at) = (zero, omega arith, ap (λ (z : Group). z.name) at)
named_group (x ∷ groups) g (suc k, inside, at) =
    let there = named_group groups g (k, omega (arith, inside), at) in (suc there.0, omega (arith, there.1), there.2)

no_place : (old : BookState) (group : Group) → (¬ HasGroup old.groups group.name) → old.limit ≤ length old.groups → HasPlace old group → ⊥
no_place old group none full (inl has) = none has
no_place old group none full (inr few) = omega (arith, full, few)

defines_once : (old : BookState) (group : Group) (a b : Defined) (new two : BookState) → a ≢ defined.Memory → b ≢ defined.Memory → DefinesGroup old group a new → DefinesGroup old group b two → (a ≡ b) × (new ≡ two)
defines_once old group defined.Again defined.Again new two x y p q = (refl, p.1 ∙ sym q.1)
defines_once old group defined.Again (defined.Full limit) new two x y p q = absurd (q.0 (named_group old.groups group p.0))
defines_once old group defined.Again defined.Ok new two x y p q = absurd (q.0 p.0)
defines_once old group (defined.Full limit) defined.Again new two x y p q = absurd (p.0 (named_group old.groups group q.0))
defines_once old group (defined.Full limit) (defined.Full other) new two x y (none, is, full, stays) (none', is', full', stays') = (ap defined.Full (is ∙ sym is'), stays ∙ sym stays')
defines_once old group (defined.Full limit) defined.Ok new two x y (none, is, full, stays) (other, place, grows) = absurd (no_place old group none full place)
defines_once old group defined.Ok defined.Again new two x y p q = absurd (p.0 q.0)
defines_once old group defined.Ok (defined.Full limit) new two x y (other, place, grows) (none, is, full, stays) = absurd (no_place old group none full place)
defines_once old group defined.Ok defined.Ok new two x y (other, place, grows) (other', place', grows') = (refl, grows ∙ sym grows')
defines_once old group defined.Memory b new two x y p q = absurd (x refl)
defines_once old group defined.Again defined.Memory new two x y p q = absurd (y refl)
defines_once old group (defined.Full limit) defined.Memory new two x y p q = absurd (y refl)
defines_once old group defined.Ok defined.Memory new two x y p q = absurd (y refl)

pub group_once : (group : Group) (old : Office) → IsOneFrom old (KeepsGroup group)
group_once group old said other new two p q =
    let same = defines_once old.book group p.answer q.answer p.book q.book p.memory q.memory p.defines q.defines in
    (p.said_is ∙ ap (λ (a : Defined). about_line (codes "group" ∷ []) (defined_words a)) same.0 ∙ sym q.said_is, p.new_is ∙ ap (λ (b : BookState). record old { book = b }) same.1 ∙ sym q.new_is)

abbrev IsNone : List ℕ → List Group → Type 0
IsNone name groups = AllByRecursion (λ other. bytes_eq name other ≡ false) (group_names groups)

none_with : (name : List ℕ) (g : Group) (groups : List Group) → bytes_eq name g.name ≡ false → IsNone name groups → IsNone name (with_group g groups)
none_with name g [] is all = (is, tt)
none_with name g (o ∷ groups) is all = by (bytes_eq o.name g.name) (none_with name g groups is all.1)
  where
    by : (b : Bool) → IsNone name (with_group g groups) → IsNone name (cond b (g ∷ groups) (o ∷ with_group g groups))
    by true rest = (is, all.1)
    by false rest = (all.0, rest)

with_distinct : (g : Group) (groups : List Group) → IsDistinct bytes_eq (group_names groups) → IsDistinct bytes_eq (group_names (with_group g groups))
unfolding IsDistinct
with_distinct g [] distinct = (tt, tt)
with_distinct g (o ∷ groups) distinct = by (bytes_eq o.name g.name) refl (with_distinct g groups distinct.1)
  where
    by : (b : Bool) → bytes_eq o.name g.name ≡ b → IsDistinct bytes_eq (group_names (with_group g groups)) → IsDistinct bytes_eq (group_names (cond b (g ∷ groups) (o ∷ with_group g groups)))
    by true is rest = (subst (λ (n : List ℕ). IsNone n groups) ((bytes_eq-Decides o.name g.name).0 is) distinct.0, distinct.1)
    by false is rest = (none_with o.name g groups is distinct.0, rest)

defines_names : (old : BookState) (group : Group) (a : Defined) (new : BookState) → IsWellNamed old → DefinesGroup old group a new → IsWellNamed new
defines_names old group defined.Again new good p = subst IsWellNamed (sym p.1) good
defines_names old group (defined.Full limit) new good (none, is, full, stays) = subst IsWellNamed (sym stays) good
defines_names old group defined.Ok new good (other, place, grows) = subst IsWellNamed (sym grows) (record { properties = good.properties; groups = with_distinct group old.groups good.groups })
defines_names old group defined.Memory new good p = subst IsWellNamed (sym p) good

pub group_named : (group : Group) (old : Office) (said : List ℕ) (new : Office) → IsWellNamed old.book → KeepsGroup group old said new → IsWellNamed new.book
group_named group old said new good p = subst (λ (o : Office). IsWellNamed o.book) (sym p.new_is) (defines_names old.book group p.answer p.book good p.defines)

-- ---- measure
abbrev pub OneSample : Type 0
OneSample = (w : WorldState) (old new other : MachineView) (analyst after otherwise : AnalystState) (properties : List Property) (moment offset : ℤ) (answer another : Taken) → old.world ≡ Some w
    → Takes old analyst properties moment offset answer new after → Takes old analyst properties moment offset another other otherwise → HasNotFailed answer → HasNotFailed another → (answer ≡ another) × (after ≡ otherwise)

no_failure : (failed old new : ℕ) → old ≡ 0 → new ≡ 0 → RoseBy failed old new → failed ≡ 0
no_failure failed old new none steady rose = omega (arith, none, steady, rose)

-- where the machine's count stays 0 no look failed
not_failed : (old : MachineView) (analyst : AnalystState) (due : List Property) (moment offset : ℤ) (answer : Taken) (told : MachineView) (after : AnalystState) (book new : BookState) → old.faults ≡ 0 → told.faults ≡ 0
    → GivesTaken old analyst due moment offset answer told after → PutsTaken book answer new → HasNotFailed answer
not_failed old analyst due moment offset (taken.Sample sample) told after book new none steady gives puts = no_failure sample.failed old.faults told.faults none steady gives.counts.rose
not_failed old analyst due moment offset taken.Nothing told after book new none steady gives puts = tt
not_failed old analyst due moment offset taken.Memory told after book new none steady gives puts = puts

measured_once : OneSample → (moment : ℤ) (book : BookState) (old : PlayedComputer) (a b : Taken) (new two : PlayedComputer) (next then : BookState) → PutsTaken book a next → PutsTaken book b then
    → MeasuresComputer moment book.properties old a new → MeasuresComputer moment book.properties old b two → (a ≡ b) × (new ≡ two)
measured_once law moment book old a b new two next then puts also p q =
    let machine : MachineView = (devices_of old).machine in
    let due : List Property = due_of old.analyst moment book.properties in
    let same = law old.world machine p.told q.told old.analyst p.analyst q.analyst book.properties moment old.world.offset a b refl p.takes q.takes
    (not_failed machine old.analyst due moment old.world.offset a p.told p.analyst book next refl p.faults p.takes puts)
    (not_failed machine old.analyst due moment old.world.offset b q.told q.analyst book then refl q.faults q.takes also) in
    (same.0, p.new_is ∙ ap (λ (s : AnalystState). record old { analyst = s }) same.1 ∙ sym q.new_is)

puts_once : (old : BookState) (a : Taken) (new two : BookState) → PutsTaken old a new → PutsTaken old a two → new ≡ two
puts_once old (taken.Sample sample) new two (count, (changed, is)) (count', (changed', is')) = is ∙ sym is'
puts_once old taken.Nothing new two p q = p ∙ sym q
puts_once old taken.Memory new two p q = absurd p

pub measures_once : OneSample → (name : List ℕ) (moment : ℤ) (old : Office) → IsOneFrom old (Measures name moment)
measures_once law name moment old said other new two p q =
    let one : q.computer ≡ p.computer = found_once (named name old.computers) q.computer p.computer q.here p.here in
    let again = subst (λ (c : PlayedComputer). MeasuresComputer moment old.book.properties c q.answer q.measured) one q.measures in
    let same = measured_once law moment old.book p.computer p.answer q.answer p.measured q.measured p.book q.book p.puts q.puts p.measures again in
    let book : p.book ≡ q.book = puts_once old.book p.answer p.book q.book p.puts (subst (λ (t : Taken). PutsTaken old.book t q.book) (sym same.0) q.puts) in (
      p.said_is ∙ ap (λ (t : Taken). about_line (codes "measure" ∷ name ∷ signed_decimal moment ∷ []) (decimal (rows_taken t) ∷ codes "rows" ∷ [])) same.0 ∙ sym q.said_is,
      p.new_is ∙ (λ j. record (with_computer name (same.1 j) old) { book = book j }) ∙ sym q.new_is,
    )

puts_named : (old : BookState) (a : Taken) (new : BookState) → IsWellNamed old → PutsTaken old a new → IsWellNamed new
puts_named old (taken.Sample sample) new good (count, (changed, is)) = subst IsWellNamed (sym is) (record { properties = good.properties; groups = good.groups })
puts_named old taken.Nothing new good p = subst IsWellNamed (sym p) good
puts_named old taken.Memory new good p = absurd p

pub measures_named : (name : List ℕ) (moment : ℤ) (old : Office) (said : List ℕ) (new : Office) → IsWellNamed old.book → Measures name moment old said new → IsWellNamed new.book
measures_named name moment old said new good p = subst (λ (o : Office). IsWellNamed o.book) (sym p.new_is) (puts_named old.book p.answer p.book good p.puts)

-- ---- members, target
abbrev pub OneListOfMembers : Type 0
OneListOfMembers = (samples : List Sample) (group : Group) (members others : List (List ℕ)) → AreMembers samples group members → AreMembers samples group others → others ≡ members

apart : (name : List ℕ) (groups : List Group) (other : Group) → IsNone name groups → Contains groups other → name ≢ other.name
apart name [] other all (k, inside, at) e = omega (arith, inside)
apart name (g ∷ groups) other all (zero, inside, at) e = true≢false (sym ((bytes_eq-Decides name g.name).1 (e ∙ ap (λ (x : Group). x.name) (sym at))) ∙ all.0)
apart name (g ∷ groups) other all (suc k, inside, at) e = apart name groups other all.1 (k, omega (arith, inside), at) e

-- of distinct names each has one group
one_group : (groups : List Group) (a b : Group) → IsDistinct bytes_eq (group_names groups) → Contains groups a → Contains groups b → a.name ≡ b.name → a ≡ b
unfolding IsDistinct
one_group [] a b distinct (k, inside, at) has same = absurd (omega (arith, inside))
one_group (g ∷ groups) a b distinct (zero, i, at) (zero, j, also) same = sym at ∙ also
one_group (g ∷ groups) a b distinct (zero, i, at) (suc m, j, also) same = absurd (apart g.name groups b distinct.0 (m, omega (arith, j), also) (ap (λ (x : Group). x.name) at ∙ same))
one_group (g ∷ groups) a b distinct (suc k, i, at) (zero, j, also) same = absurd (apart g.name groups a distinct.0 (k, omega (arith, i), at) (ap (λ (x : Group). x.name) also ∙ sym same))
one_group (g ∷ groups) a b distinct (suc k, i, at) (suc m, j, also) same = one_group groups a b distinct.1 (k, omega (arith, i), at) (m, omega (arith, j), also) same

members_once : OneListOfMembers → (book : BookState) (name : List ℕ) (members others : List (List ℕ)) → IsWellNamed book → HasMembers book name members → HasMembers book name others → members ≡ others
members_once law book name members others good p q =
    let same : q.group ≡ p.group = one_group book.groups q.group p.group good.groups q.kept p.kept (q.name_is ∙ sym p.name_is) in
    sym (law book.samples p.group members others p.are (subst (λ (g : Group). AreMembers book.samples g others) same q.are))

has_group : (book : BookState) (name : List ℕ) (members : List (List ℕ)) → HasMembers book name members → HasGroup book.groups name
has_group book name members p = subst (λ (n : List ℕ). HasGroup book.groups n) p.name_is (named_group book.groups p.group p.kept)

pub says_members_once : OneListOfMembers → (name : List ℕ) (old : Office) → IsWellNamed old.book → IsOneFrom old (SaysMembers name)
says_members_once law name old good said other new two (stays, inl (members, are, is)) (stays', inl (members', are', is')) =
    (is ∙ ap (λ (l : List (List ℕ)). members_lines name l) (members_once law old.book name members members' good are are') ∙ sym is', stays ∙ sym stays')
says_members_once law name old good said other new two (stays, inl (members, are, is)) (stays', inr (none, is')) = absurd (none (has_group old.book name members are))
says_members_once law name old good said other new two (stays, inr (none, is)) (stays', inl (members, are, is')) = absurd (none (has_group old.book name members are))
says_members_once law name old good said other new two (stays, inr (none, is)) (stays', inr (none', is')) = (is ∙ sym is', stays ∙ sym stays')

not_both : OneListOfMembers → (book : BookState) (name first : List ℕ) (more : List (List ℕ)) → IsWellNamed book → HasNoMember book name → HasMembers book name (first ∷ more) → ⊥
not_both law book name first more good (inl none) has = none (has_group book name (first ∷ more) has)
not_both law book name first more good (inr are) has = some_more (members_once law book name [] (first ∷ more) good are has)
  where
    some_more : [] ≡ first ∷ more → ⊥
    some_more e = cc

pub targets_once : OneMeaning → OneListOfMembers → (name text : List ℕ) (old : Office) → IsWellNamed old.book → IsOneFrom old (TargetsGroup name text)
targets_once meaning law name text old good said other new two (inl (none, is, stays)) (inl (none', is', stays')) = (is ∙ sym is', stays ∙ sym stays')
targets_once meaning law name text old good said other new two (inl (none, is, stays)) (inr (first, more, are, asks)) = absurd (not_both law old.book name first more good none are)
targets_once meaning law name text old good said other new two (inr (first, more, are, asks)) (inl (none, is, stays)) = absurd (not_both law old.book name first more good none are)
targets_once meaning law name text old good said other new two (inr (first, more, are, asks)) (inr (first', more', are', asks')) =
    let same : first' ∷ more' ≡ first ∷ more = members_once law old.book name (first' ∷ more') (first ∷ more) good are' are in
    asks_once meaning (codes "target") (request.Act (aimed (first ∷ more) text)) old said other new two asks
    (subst (λ (l : List (List ℕ)). AsksServer (codes "target") (request.Act (aimed l text)) old other two) same asks')
