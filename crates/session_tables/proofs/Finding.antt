-- A row that is shown is found at its path, and nothing else is.
use Rattle.std.proofs.Common.{◌≡◌, ◌≢◌, ℕ, Bool, true, false, cond, nat_eq, List, [], ◌∷◌, ◌++◌, codes, None, Some, option_map, refl, sym, ap, subst, ◌∙◌, arith}
use Rattle.std.specs.Prelude.{decimal, get_or}
use Rattle.std.specs.declared.cmp.Ordering.{Ordering}
use Rattle.std.specs.declared.cmp.Ordering.TheVariants.{Less, Equal, Greater}
use Rattle.std.specs.Ordering.{is_eq, match_ordering, ordering_reverse}
use Rattle.std.proofs.lemmas.Bool.{and_parts}
use Rattle.std.proofs.lemmas.Cmp.{nat_list_cmp_total}
use Rattle.std.proofs.lemmas.Fmt.{decimal_injective}
use Rattle.std.proofs.lemmas.List.{append_cancel_left}
use Rattle.std.proofs.lemmas.List.Elements.{All-head, All-tail}
use Rattle.std.proofs.lemmas.Map.Lookups.{exact_bytes}
use Rattle.line_forms.specs.Cuts.{Lacks}
use Rattle.line_forms.proofs.Cutting.{IsCut-one}
use Rattle.bf_world.specs.Maps.{byte_order, at, put}
use Rattle.bf_world.proofs.MapLemmas.{order-same}
use Rattle.desk_keep.specs.declared.change.Change.{Change}
use Rattle.desk_keep.specs.declared.change.Change.TheVariants as change
use Rattle.desk_keep.specs.declared.find.Find.{Find}
use Rattle.desk_keep.specs.declared.find.Find.TheVariants as find
use Rattle.desk_keep.specs.Keys.{Key, asked_key, key_of, same_key}
use Rattle.desk_keep.specs.Tables.{row_at}
use Rattle.desk_keep.proofs.KeyOrder.{same_exact, same_itself}
use Rattle.session_tables.specs.Paths.{find_of, is_shown, is_shown_id, is_shown_name, node_of, path_of}
use Rattle.session_tables.specs.Worlds.{folders, paths_of}
use Rattle.session_tables.proofs.Naming.{name-lacks, id-small}

-- ---- keys
-- what is asked for by a key
back : Key → Find
back key =
    cond (nat_eq key.table 0) (find.Site key.name)
    (cond (nat_eq key.table 1) (find.Action key.number)
    (cond (nat_eq key.table 2) (find.File key.name)
    (cond (nat_eq key.table 3) (find.Computer key.name)
    (cond (nat_eq key.table 4) (find.Report key.name key.number)
    (find.Result key.name key.number)))))

back-asked : (f : Find) → back (asked_key f) ≡ f
unfolding back
back-asked (find.Site name) = refl
back-asked (find.Action id) = refl
back-asked (find.File digest) = refl
back-asked (find.Computer name) = refl
back-asked (find.Report computer seq) = refl
back-asked (find.Result computer action) = refl

asked_injective : (f g : Find) → asked_key f ≡ asked_key g → f ≡ g
asked_injective f g e = sym (back-asked f) ∙ ap back e ∙ back-asked g

pub key-asked : (row : Change) → key_of row ≡ asked_key (find_of row)
key-asked (change.Site name version text) = refl
key-asked (change.Action id text digest) = refl
key-asked (change.File digest bytes) = refl
key-asked (change.Computer name) = refl
key-asked (change.Report computer seq digest) = refl
key-asked (change.Result result) = refl

-- ---- paths
-- the byte of a path that tells its folder
abbrev pub second : List ℕ → ℕ
second path = get_or path 1 0

-- a text with a `/` in it isn't without one
pub has_slash : (first rest : List ℕ) → Lacks 47 (first ++ 47 ∷ rest) → ⊥
has_slash [] rest lacks = All-head (λ x. x ≢ 47) 47 rest lacks refl
has_slash (b ∷ first) rest lacks = has_slash first rest (All-tail (λ x. x ≢ 47) b (first ++ 47 ∷ rest) lacks)

computer_or_result : (name computer : List ℕ) (action : ℕ) → is_shown_name name ≡ true → name ≡ computer ++ 47 ∷ decimal action → ⊥
computer_or_result name computer action shown e = has_slash computer (decimal action) (subst (Lacks 47) e (name-lacks name shown))

one_result : (computer other : List ℕ) (action number : ℕ) → is_shown (find.Result computer action) ≡ true → is_shown (find.Result other number) ≡ true
    → computer ++ 47 ∷ decimal action ≡ other ++ 47 ∷ decimal number → find.Result computer action ≡ find.Result other number
one_result computer other action number a b e =
    let p = and_parts (is_shown_name computer) (is_shown_id action) a in
    let q = and_parts (is_shown_name other) (is_shown_id number) b in
    let cut = IsCut-one 47 (computer ++ 47 ∷ decimal action) computer (decimal action) other (decimal number) (name-lacks computer p.0, refl) (name-lacks other q.0, e) in
    let same : action ≡ number = decimal_injective action number (id-small action p.1) (id-small number q.1) (sym cut.1) in
    ap (λ t. find.Result t action) (sym cut.0) ∙ ap (find.Result other) same

-- a path is that of one key that is shown
pub path_injective : (f g : Find) → is_shown f ≡ true → is_shown g ≡ true → path_of f ≡ path_of g → f ≡ g
unfolding path_of
path_injective (find.Site n) (find.Site m) a b e = ap find.Site (append_cancel_left (codes "/sites/") n m e)
path_injective (find.Site n) (find.Action id) a b e = absurd (let d : 115 ≡ 97 = ap second e in omega (arith, d))
path_injective (find.Site n) (find.Computer m) a b e = absurd (let d : 115 ≡ 99 = ap second e in omega (arith, d))
path_injective (find.Site n) (find.Result c x) a b e = absurd (let d : 115 ≡ 99 = ap second e in omega (arith, d))
path_injective (find.Action id) (find.Site n) a b e = absurd (let d : 97 ≡ 115 = ap second e in omega (arith, d))
path_injective (find.Action x) (find.Action y) a b e =
    ap find.Action (decimal_injective x y (id-small x a) (id-small y b) (append_cancel_left (codes "/actions/") (decimal x) (decimal y) e))
path_injective (find.Action id) (find.Computer m) a b e = absurd (let d : 97 ≡ 99 = ap second e in omega (arith, d))
path_injective (find.Action id) (find.Result c x) a b e = absurd (let d : 97 ≡ 99 = ap second e in omega (arith, d))
path_injective (find.Computer n) (find.Site m) a b e = absurd (let d : 99 ≡ 115 = ap second e in omega (arith, d))
path_injective (find.Computer n) (find.Action id) a b e = absurd (let d : 99 ≡ 97 = ap second e in omega (arith, d))
path_injective (find.Computer n) (find.Computer m) a b e = ap find.Computer (append_cancel_left (codes "/computers/") n m e)
path_injective (find.Computer n) (find.Result c x) a b e =
    absurd (computer_or_result n c x a (append_cancel_left (codes "/computers/") n (c ++ 47 ∷ decimal x) e))
path_injective (find.Result c x) (find.Site m) a b e = absurd (let d : 99 ≡ 115 = ap second e in omega (arith, d))
path_injective (find.Result c x) (find.Action id) a b e = absurd (let d : 99 ≡ 97 = ap second e in omega (arith, d))
path_injective (find.Result c x) (find.Computer n) a b e =
    absurd (computer_or_result n c x b (append_cancel_left (codes "/computers/") n (c ++ 47 ∷ decimal x) (sym e)))
path_injective (find.Result c x) (find.Result d y) a b e =
    one_result c d x y a b (append_cancel_left (codes "/computers/") (c ++ 47 ∷ decimal x) (d ++ 47 ∷ decimal y) e)
path_injective (find.File d) g a b e = absurd (cc)
path_injective (find.Report c n) g a b e = absurd (cc)
path_injective f (find.File d) a b e = absurd (cc)
path_injective f (find.Report c n) a b e = absurd (cc)

-- ---- looking up
is_eq_is : (r : Ordering) → is_eq r ≡ true → r ≡ Equal
is_eq_is Less h = absurd (cc)
is_eq_is Equal h = refl
is_eq_is Greater h = absurd (cc)

cond_twice : {A : Type 0} (b : Bool) (x y z : A) → cond b x z ≡ cond b x (cond b y z)
cond_twice true x y z = refl
cond_twice false x y z = refl

cond_swap : {A : Type 0} (b c : Bool) (x y z : A) → (b ≡ true → c ≡ true → ⊥) → cond b x (cond c y z) ≡ cond c y (cond b x z)
cond_swap true true x y z h = absurd (h refl refl)
cond_swap true false x y z h = refl
cond_swap false true x y z h = refl
cond_swap false false x y z h = refl

-- a key that ties with another ties with what that does
tied : (q k l : List ℕ) → byte_order k l ≡ Equal → byte_order q k ≡ byte_order q l
tied q k l e =
    nat_list_cmp_total.antisymm q k ∙ ap ordering_reverse (nat_list_cmp_total.congr k l q e) ∙ sym (nat_list_cmp_total.antisymm q l)

apart : (q k l : List ℕ) → byte_order k l ≡ Greater → is_eq (byte_order q l) ≡ true → is_eq (byte_order q k) ≡ true → ⊥
apart q k l above one other =
    let same : byte_order q l ≡ byte_order k l = nat_list_cmp_total.congr q k l (is_eq_is (byte_order q k) other) in
    let e : Equal ≡ Greater = sym (is_eq_is (byte_order q l) one) ∙ same ∙ above in
    cc

pub at-put : {V : Type 0} (q k : List ℕ) (v : V) (es : List (List ℕ × V)) → at q (put k v es) ≡ cond (is_eq (byte_order q k)) (Some v) (at q es)
at-put q k v [] = refl
at-put {V} q k v (e ∷ es) = by (byte_order k e.0) refl (at-put q k v es)
  where
    by : (r : Ordering) → byte_order k e.0 ≡ r → at q (put k v es) ≡ cond (is_eq (byte_order q k)) (Some v) (at q es)
        → at q (match_ordering (byte_order k e.0) ((k, v) ∷ e ∷ es) ((e.0, v) ∷ es) (e ∷ put k v es))
        ≡ cond (is_eq (byte_order q k)) (Some v) (cond (is_eq (byte_order q e.0)) (Some e.1) (at q es))
    by Less is more = ap (λ r. at q (match_ordering r ((k, v) ∷ e ∷ es) ((e.0, v) ∷ es) (e ∷ put k v es))) is
    by Equal is more =
        ap (λ r. at q (match_ordering r ((k, v) ∷ e ∷ es) ((e.0, v) ∷ es) (e ∷ put k v es))) is
        ∙ cond_twice (is_eq (byte_order q e.0)) (Some v) (Some e.1) (at q es)
        ∙ ap (λ r. cond (is_eq r) (Some v) (cond (is_eq (byte_order q e.0)) (Some e.1) (at q es))) (sym (tied q k e.0 is))
    by Greater is more =
        ap (λ r. at q (match_ordering r ((k, v) ∷ e ∷ es) ((e.0, v) ∷ es) (e ∷ put k v es))) is
        ∙ ap (λ o. cond (is_eq (byte_order q e.0)) (Some e.1) o) more
        ∙ cond_swap (is_eq (byte_order q e.0)) (is_eq (byte_order q k)) (Some e.1) (Some v) (at q es) (apart q k e.0 is)

-- a text that isn't a key doesn't tie with it
pub untied : (q k : List ℕ) → q ≢ k → is_eq (byte_order q k) ≡ false
untied q k other = by (is_eq (byte_order q k)) refl
  where
    by : (b : Bool) → is_eq (byte_order q k) ≡ b → is_eq (byte_order q k) ≡ false
    by true is = absurd (other (exact_bytes q k (is_eq_is (byte_order q k) is)))
    by false is = is

-- ---- what stands where no row does
pub at-elsewhere : (path : List ℕ) → ((f : Find) → is_shown f ≡ true → path ≢ path_of f) → (rows : List Change) → at path (paths_of rows) ≡ at path folders
at-elsewhere path other [] = refl
at-elsewhere path other (row ∷ rows) = by (at-elsewhere path other rows) (is_shown (find_of row)) refl
  where
    by : at path (paths_of rows) ≡ at path folders → (b : Bool) → is_shown (find_of row) ≡ b → at path (cond b (put (path_of (find_of row)) (node_of row) (paths_of rows)) (paths_of rows)) ≡ at path folders
    by more true is =
        at-put path (path_of (find_of row)) (node_of row) (paths_of rows)
        ∙ ap (λ b. cond b (Some (node_of row)) (at path (paths_of rows))) (untied path (path_of (find_of row)) (other (find_of row) is))
        ∙ more
    by more false is = more

-- ---- what stands at the path of a row
at-folders : (f : Find) → is_shown f ≡ true → at (path_of f) folders ≡ None
unfolding path_of
at-folders (find.Site name) is = refl
at-folders (find.Action id) is = refl
at-folders (find.File digest) is = absurd (cc)
at-folders (find.Computer name) is = refl
at-folders (find.Report computer seq) is = absurd (cc)
at-folders (find.Result computer action) is = refl

pub at-found : (f : Find) → is_shown f ≡ true → (rows : List Change) → at (path_of f) (paths_of rows) ≡ option_map node_of (row_at (asked_key f) rows)
at-found f is [] = at-folders f is
at-found f is (row ∷ rows) = by (at-found f is rows) (is_shown (find_of row)) refl (same_key (asked_key f) (key_of row)) refl
  where
    same_find : same_key (asked_key f) (key_of row) ≡ true → f ≡ find_of row
    same_find same = asked_injective f (find_of row) (same_exact (asked_key f) (key_of row) same ∙ key-asked row)

    other : is_shown (find_of row) ≡ true → same_key (asked_key f) (key_of row) ≡ false → path_of f ≢ path_of (find_of row)
    other shown same e =
        let one : f ≡ find_of row = path_injective f (find_of row) is shown e in
        let key : same_key (asked_key f) (asked_key (find_of row)) ≡ true = ap (λ g. same_key (asked_key f) (asked_key g)) (sym one) ∙ same_itself (asked_key f) in
        let both : true ≡ false = sym key ∙ ap (same_key (asked_key f)) (sym (key-asked row)) ∙ same in
        cc

    by : at (path_of f) (paths_of rows) ≡ option_map node_of (row_at (asked_key f) rows) → (b : Bool) → is_shown (find_of row) ≡ b
        → (c : Bool) → same_key (asked_key f) (key_of row) ≡ c
        → at (path_of f) (cond b (put (path_of (find_of row)) (node_of row) (paths_of rows)) (paths_of rows))
        ≡ option_map node_of (cond c (Some row) (row_at (asked_key f) rows))
    by more true shown true same =
        at-put (path_of f) (path_of (find_of row)) (node_of row) (paths_of rows)
        ∙ ap (λ g. cond (is_eq (byte_order (path_of f) (path_of g))) (Some (node_of row)) (at (path_of f) (paths_of rows))) (sym (same_find same))
        ∙ ap (λ r. cond (is_eq r) (Some (node_of row)) (at (path_of f) (paths_of rows))) (order-same (path_of f))
    by more true shown false same =
        at-put (path_of f) (path_of (find_of row)) (node_of row) (paths_of rows)
        ∙ ap (λ b. cond b (Some (node_of row)) (at (path_of f) (paths_of rows))) (untied (path_of f) (path_of (find_of row)) (other shown same))
        ∙ more
    by more false shown true same = absurd (let both : true ≡ false = sym is ∙ ap is_shown (same_find same) ∙ shown in cc)
    by more false shown false same = more
