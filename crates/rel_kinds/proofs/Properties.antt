-- What the rows of properties give.
use Rattle.std.proofs.Common.{◌≡◌, ℕ, zero, suc, ℤ, pos, negsuc, Bool, true, false, List, [], ◌∷◌, ◌++◌, map, refl, sym, ap, subst, ◌∙◌}
use Rattle.std.specs.Prelude.{nat_le, length, if◌then◌else◌}
use Rattle.std.specs.List.{slice_get}
use Rattle.std.specs.declared.option.Option.{Option}
use Rattle.std.specs.declared.option.Option.TheVariants.{Some, None}
use Rattle.std.specs.Option.{option_map}
use Rattle.std.specs.Str.{chars}
use Rattle.std.proofs.lemmas.List.{map-append}
use Rattle.std.proofs.lemmas.Option.{slice_get-map}
use Rattle.sha1.specs.Sha1.{sha1}
use Rattle.sha2.specs.Sha256.{sha256}
use Rattle.hex.specs.Hex.{encode_lower}
use Rattle.rel_lexer.specs.declared.place.Place.{Place}
use Rattle.bf_world.specs.declared.answer.Answer.{Answer}
use Rattle.bf_world.specs.declared.answer.Answer.TheVariants as answer
use Rattle.bf_world.specs.declared.answer.Entry.{Entry}
use Rattle.bf_world.specs.declared.key.Key.TheVariants as key
use Rattle.bf_world.specs.Paths.{is_part, is_path, joined}
use Rattle.bf_world.specs.Shown.{shown}
use Rattle.bf_world.specs.Worlds.{WorldState}
use Rattle.rel_value.specs.declared.property.PropertyId.{PropertyId}
use Rattle.rel_value.specs.declared.property.PropertyId.TheVariants as id
use Rattle.rel_value.specs.Plain.{Plain, integer, words, time, version, file, process, setting, a_package, system, tuple, Parts, no_parts, more_parts, PlainKind, booleans, integers, texts, text_parts, times, intervals, versions, files, folders, clients, settings, processes, packages, systems, actions, tuples, PlainKinds, kind_of, kinds_of}
use Rattle.rel_value.specs.Versions.{version_of}
use Rattle.rel_types.specs.Rows.{kind_list}
use Rattle.rel_types.specs.Heads.{kind_at}
use Rattle.rel_sources.specs.declared.scene.Scene.{Scene}
use Rattle.rel_sources.specs.Traces as walk
use Rattle.rel_sources.specs.Traces.{Item, Absent, Present, Unfit, before, once, turns, text_item}
use Rattle.rel_sources.specs.Rows.{item_of, text_item_of, path_item, size_item, modified_item, entries_of, value_at, entry_item, entry_items, lines_of, kept, is_asked, line_item, numbered, digest_item, system_item, name_item, is_wanted, process_item, process_items, package_item, package_items, setting_item, setting_items, integers as integers_between, integer_item, part_at, first_item, last_item, part_numbered}
use Rattle.rel_sources.specs.Scenes.{value_of}
use Rattle.rel_sources.specs.Words.{first_place, last_place, pieces_by}
use Rattle.rel_inspect.specs.Below.{in_place, entries_below, below, descendants}
use Rattle.rel_inspect.specs.Offered.{text_in, integer_in, file_in, folder_in, path_in, name_in, version_in, value_in, date_in, preceding_in, following_in, bounds_in, part_list}
use Rattle.rel_inspect.specs.Props.{with, looking, at_path, at_name, prop}
use Rattle.rel_nodes.specs.Meaning.{placed}
use Rattle.rel_kinds.specs.Giving.{GivesKind, GivesOne}
use Rattle.rel_kinds.specs.RowPromises.{PropertyKeeps}
use Rattle.rel_kinds.proofs.Basics.{some_same, none_some, false_true, is_tuple, same_tuples}

-- ---- items

-- a value of the item has this kind
abbrev pub HasKind : PlainKind → Item → Type 0
HasKind k Absent = Unit {0}
HasKind k (Present v) = kind_of v ≡ k
HasKind k Unfit = Unit {0}

fit-kind : (b : Bool) (t : List ℕ) → HasKind texts (if b then Present (words t) else Unfit)
fit-kind true t = refl
fit-kind false t = tt

text-kind : (t : List ℕ) → HasKind texts (text_item t)
text-kind t = fit-kind (nat_le (length t) 1048576) t

text_of-kind : (t : Option (List ℕ)) → HasKind texts (text_item_of t)
text_of-kind None = tt
text_of-kind (Some t) = text-kind t

-- what there is, made a value of this kind
made-kind : {A : Type 0} (k : PlainKind) (f : A → Plain) (o : Option A) → ((x : A) → kind_of (f x) ≡ k) → HasKind k (item_of (option_map f o))
made-kind k f None h = tt
made-kind k f (Some x) h = h x

path-kind : (folder : Bool) (path : List ℕ) (a : Answer) → HasKind (if folder then folders else files) (path_item folder path a)
path-kind true path answer.Folder = refl
path-kind true path _ = tt
path-kind false path (answer.File size modified) = refl
path-kind false path _ = tt

size-kind : (a : Answer) → HasKind integers (size_item a)
size-kind (answer.File size modified) = refl
size-kind _ = tt

modified-kind : (a : Answer) → HasKind times (modified_item a)
modified-kind (answer.File size modified) = refl
modified-kind _ = tt

digest-kind : (digest : List ℕ → List ℕ) (a : Answer) → HasKind texts (digest_item digest a)
digest-kind digest (answer.Content bytes) = text-kind (encode_lower (digest bytes))
digest-kind digest _ = tt

system-kind : (a : Answer) → HasKind systems (system_item a)
system-kind (answer.System name v) = made-kind systems (system name) (version_of v) (λ x. refl)
system-kind _ = tt

name-kind : (a : Answer) → HasKind texts (name_item a)
name-kind (answer.Name name) = text-kind name
name-kind _ = tt

first-kind : (wanted text : List ℕ) → HasKind text_parts (first_item wanted text)
first-kind [] text = tt
first-kind (x ∷ xs) text = made-kind text_parts (part_at (x ∷ xs) text) (first_place (x ∷ xs) text) (λ n. refl)

last-kind : (wanted text : List ℕ) → HasKind text_parts (last_item wanted text)
last-kind [] text = tt
last-kind (x ∷ xs) text = made-kind text_parts (part_at (x ∷ xs) text) (last_place (x ∷ xs) text) (λ n. refl)

-- ---- walks

-- each value that a walk gives has this kind
abbrev pub WalksKind : PlainKind → walk.Trace → Type 0
WalksKind k (walk.Ends e) = Unit {0}
WalksKind k (walk.After (walk.Look y) t) = WalksKind k t
WalksKind k (walk.After walk.Turn t) = WalksKind k t
WalksKind k (walk.After (walk.Give v) t) = (kind_of v ≡ k) × WalksKind k t

placed-kind : (k : PlainKind) (p : Place) (t : walk.Trace) → WalksKind k t → GivesKind k (placed p t)
placed-kind k p (walk.Ends walk.Stop) h = tt
placed-kind k p (walk.Ends walk.TooLong) h = tt
placed-kind k p (walk.After (walk.Look y) t) h = placed-kind k p t h
placed-kind k p (walk.After walk.Turn t) h = placed-kind k p t h
placed-kind k p (walk.After (walk.Give v) t) h = (h.0, placed-kind k p t h.1)

walk_follow-kind : (k : PlainKind) (t u : walk.Trace) → WalksKind k t → WalksKind k u → WalksKind k (walk.follow t u)
walk_follow-kind k (walk.Ends walk.Stop) u h g = g
walk_follow-kind k (walk.Ends walk.TooLong) u h g = tt
walk_follow-kind k (walk.After (walk.Look y) t) u h g = walk_follow-kind k t u h g
walk_follow-kind k (walk.After walk.Turn t) u h g = walk_follow-kind k t u h g
walk_follow-kind k (walk.After (walk.Give v) t) u h g = (h.0, walk_follow-kind k t u h.1 g)

before-kind : (k : PlainKind) (i : Item) (t : walk.Trace) → HasKind k i → WalksKind k t → WalksKind k (before i t)
before-kind k Absent t h g = g
before-kind k (Present v) t h g = (h, g)
before-kind k Unfit t h g = tt

once-kind : (k : PlainKind) (i : Item) → HasKind k i → WalksKind k (once i)
once-kind k i h = before-kind k i walk.none h tt

text_once-kind : (t : Option (List ℕ)) → WalksKind texts (once (text_item_of t))
text_once-kind t = once-kind texts (text_item_of t) (text_of-kind t)

made_once-kind : {A : Type 0} (k : PlainKind) (f : A → Plain) (o : Option A) → ((x : A) → kind_of (f x) ≡ k) → WalksKind k (once (item_of (option_map f o)))
made_once-kind k f o h = once-kind k (item_of (option_map f o)) (made-kind k f o h)

-- a turn before each of some items that are made of a list
turns-kind : {A : Type 0} (k : PlainKind) (f : A → Item) (xs : List A) → ((x : A) → HasKind k (f x)) → WalksKind k (turns (map f xs))
turns-kind k f [] h = tt
turns-kind k f (x ∷ xs) h = before-kind k (f x) (turns (map f xs)) (h x) (turns-kind k f xs h)

with-kind : {A : Type 0} (k : PlainKind) (o : Option A) (f : A → walk.Trace) → ((x : A) → WalksKind k (f x)) → WalksKind k (with o f)
with-kind k None f h = tt
with-kind k (Some x) f h = h x

-- ---- files and folders

if-kind : (k : PlainKind) (b : Bool) (t : walk.Trace) → WalksKind k t → WalksKind k (if b then t else walk.none)
if-kind k true t h = h
if-kind k false t h = tt

at_path-kind : (folder : Bool) (w : WorldState) (path : List ℕ) → WalksKind (if folder then folders else files) (at_path folder w path)
at_path-kind folder w path =
    if-kind _ (is_path path) (walk.After (walk.Look (key.Stat path)) (once (path_item folder path (shown w (key.Stat path)))))
    (once-kind _ (path_item folder path (shown w (key.Stat path))) (path-kind folder path (shown w (key.Stat path))))

at_name-kind : (folder : Bool) (w : WorldState) (path name : List ℕ) → WalksKind (if folder then folders else files) (at_name folder w path name)
at_name-kind folder w path name = if-kind _ (is_part name) (at_path folder w (joined path name)) (at_path-kind folder w (joined path name))

value-kind : (folders_too : Bool) (path : List ℕ) → kind_of (value_at folders_too path) ≡ (if folders_too then folders else files)
value-kind true path = refl
value-kind false path = refl

entries-kind : (sort : Bool) (path : List ℕ) (es : List Entry) → WalksKind (if sort then folders else files) (turns (entry_items sort path es))
entries-kind sort path es = turns-kind _ (entry_item sort path) _ (λ e. value-kind sort (joined path e.name))

deeper-kind : (b : Bool) (t : walk.Trace) (path : List ℕ) → WalksKind files t → WalksKind files (if b then t else walk.one (file path))
deeper-kind true t path h = h
deeper-kind false t path h = (refl, tt)

entries_below-kind : (deeper : List ℕ → walk.Trace) (path : List ℕ) (es : List Entry) → ((p : List ℕ) → WalksKind files (deeper p)) → WalksKind files (entries_below deeper path es)
entries_below-kind deeper path [] h = tt
entries_below-kind deeper path (e ∷ es) h =
    walk_follow-kind files (in_place deeper path e) (entries_below deeper path es)
    (deeper-kind e.folder (deeper (joined path e.name)) (joined path e.name) (h (joined path e.name)))
    (entries_below-kind deeper path es h)

below-kind : (w : WorldState) (n : ℕ) (path : List ℕ) → WalksKind files (below w n path)
unfolding below
below-kind w zero path = tt
below-kind w (suc n) path = entries_below-kind (below w n) path (entries_of (shown w (key.List path))) (below-kind w n)

-- ---- lists of a look's answer

kept-kind : (k : PlainKind) (b : Bool) (i : Item) → HasKind k i → HasKind k (kept b i)
kept-kind k true i h = h
kept-kind k false Absent h = tt
kept-kind k false (Present v) h = tt
kept-kind k false Unfit h = tt

lines-kind : (wanted : Option (List ℕ)) (ls : List (List ℕ)) → WalksKind texts (turns (map (line_item wanted) ls))
lines-kind wanted ls = turns-kind texts (line_item wanted) ls (λ l. kept-kind texts (is_asked wanted l) (text_item l) (text-kind l))

chosen-kind : (k : PlainKind) (b : Bool) (i : Item) → HasKind k i → HasKind k (if b then i else Absent)
chosen-kind k true i h = h
chosen-kind k false i h = tt

processes-kind : (wanted : Option (List ℕ)) (a : Answer) → WalksKind processes (turns (process_items wanted a))
processes-kind wanted (answer.Names names) = turns-kind processes (process_item wanted) names (λ n. chosen-kind processes (is_wanted wanted n) (Present (process n)) refl)
processes-kind wanted _ = tt

packages-kind : (wanted : Option (List ℕ)) (a : Answer) → WalksKind packages (turns (package_items wanted a))
packages-kind wanted (answer.Packages rows) =
    turns-kind packages (package_item wanted) rows (λ row. chosen-kind packages (is_wanted wanted row.name) (item_of (option_map (a_package row.name) (version_of row.version)))
    (made-kind packages (a_package row.name) (version_of row.version) (λ x. refl)))
packages-kind wanted _ = tt

settings-kind : (wanted : Option (List ℕ)) (a : Answer) → WalksKind settings (turns (setting_items wanted a))
settings-kind wanted (answer.Settings rows) =
    turns-kind settings (setting_item wanted) rows (λ row. chosen-kind settings (is_wanted wanted row.name) (Present (setting row.name row.value row.date)) refl)
settings-kind wanted _ = tt

-- ---- each property

-- the kind that each property gives but `item`, which gives that of a tuple's part
abbrev pub kind_said : PropertyId → Option PlainKind
kind_said id.True = Some booleans
kind_said id.False = Some booleans
kind_said id.Second = Some intervals
kind_said id.Minute = Some intervals
kind_said id.Hour = Some intervals
kind_said id.Day = Some intervals
kind_said id.Now = Some times
kind_said id.FileAt = Some files
kind_said id.FolderAt = Some folders
kind_said id.FileNamed = Some files
kind_said id.FolderNamed = Some folders
kind_said id.File = Some files
kind_said id.Folder = Some folders
kind_said id.Descendant = Some files
kind_said id.Name = Some texts
kind_said id.Pathname = Some texts
kind_said id.Size = Some integers
kind_said id.ModificationTime = Some times
kind_said id.Line = Some texts
kind_said id.LineAt = Some texts
kind_said id.LineContaining = Some texts
kind_said id.Sha1 = Some texts
kind_said id.Sha256 = Some texts
kind_said id.OperatingSystem = Some systems
kind_said id.ComputerName = Some texts
kind_said id.Process = Some processes
kind_said id.Package = Some packages
kind_said id.Version = Some versions
kind_said id.Client = Some clients
kind_said id.Action = Some actions
kind_said id.Setting = Some settings
kind_said id.Value = Some texts
kind_said id.EffectiveDate = Some times
kind_said id.IntegerIn = Some integers
kind_said id.Length = Some integers
kind_said id.First = Some text_parts
kind_said id.Last = Some text_parts
kind_said id.PrecedingText = Some texts
kind_said id.FollowingText = Some texts
kind_said id.SubstringSeparatedBy = Some texts
kind_said id.Parameter = Some texts
kind_said id.ExitCode = Some integers
kind_said id.Item = None

-- the kind, if one is said
abbrev pub WalksAs : Option PlainKind → walk.Trace → Type 0
WalksAs None t = Unit {0}
WalksAs (Some k) t = WalksKind k t

walks-as : (i : PropertyId) (a o : Option Plain) (w : WorldState) (s : Scene) → WalksAs (kind_said i) (prop i a o w s)
walks-as id.True a o w s = (refl, tt)
walks-as id.False a o w s = (refl, tt)
walks-as id.Second a o w s = (refl, tt)
walks-as id.Minute a o w s = (refl, tt)
walks-as id.Hour a o w s = (refl, tt)
walks-as id.Day a o w s = (refl, tt)
walks-as id.Now a o w s = (refl, tt)
walks-as id.FileAt a o w s = with-kind files (text_in a) (at_path false w) (at_path-kind false w)
walks-as id.FolderAt a o w s = with-kind folders (text_in a) (at_path true w) (at_path-kind true w)
walks-as id.FileNamed a o w s =
    with-kind files (text_in a) (λ name. with (folder_in o) (λ path. at_name false w path name)) (λ name.
    with-kind files (folder_in o) (λ path. at_name false w path name) (λ path. at_name-kind false w path name))
walks-as id.FolderNamed a o w s =
    with-kind folders (text_in a) (λ name. with (folder_in o) (λ path. at_name true w path name)) (λ name.
    with-kind folders (folder_in o) (λ path. at_name true w path name) (λ path. at_name-kind true w path name))
walks-as id.File a o w s =
    with-kind files (folder_in o) (λ path. looking w (key.List path) (λ x. turns (entry_items false path (entries_of x))))
    (λ path. entries-kind false path (entries_of (shown w (key.List path))))
walks-as id.Folder a o w s =
    with-kind folders (folder_in o) (λ path. looking w (key.List path) (λ x. turns (entry_items true path (entries_of x))))
    (λ path. entries-kind true path (entries_of (shown w (key.List path))))
walks-as id.Descendant a o w s = with-kind files (folder_in o) (descendants w) (below-kind w 1024)
walks-as id.Name a o w s = text_once-kind (name_in o)
walks-as id.Pathname a o w s = text_once-kind (path_in o)
walks-as id.Size a o w s =
    with-kind integers (file_in o) (λ path. looking w (key.Stat path) (λ x. once (size_item x)))
    (λ path. once-kind integers (size_item (shown w (key.Stat path))) (size-kind (shown w (key.Stat path))))
walks-as id.ModificationTime a o w s =
    with-kind times (file_in o) (λ path. looking w (key.Stat path) (λ x. once (modified_item x)))
    (λ path. once-kind times (modified_item (shown w (key.Stat path))) (modified-kind (shown w (key.Stat path))))
walks-as id.Line a o w s =
    with-kind texts (file_in o) (λ path. looking w (key.Read path) (λ x. turns (map (line_item None) (lines_of x))))
    (λ path. lines-kind None (lines_of (shown w (key.Read path))))
walks-as id.LineAt a o w s =
    with-kind texts (integer_in a) (λ n. with (file_in o) (λ path. looking w (key.Read path) (λ x. once (text_item_of (numbered n (lines_of x)))))) (λ n.
    with-kind texts (file_in o) (λ path. looking w (key.Read path) (λ x. once (text_item_of (numbered n (lines_of x)))))
    (λ path. text_once-kind (numbered n (lines_of (shown w (key.Read path))))))
walks-as id.LineContaining a o w s =
    with-kind texts (text_in a) (λ t. with (file_in o) (λ path. looking w (key.Read path) (λ x. turns (map (line_item (Some t)) (lines_of x))))) (λ t.
    with-kind texts (file_in o) (λ path. looking w (key.Read path) (λ x. turns (map (line_item (Some t)) (lines_of x))))
    (λ path. lines-kind (Some t) (lines_of (shown w (key.Read path)))))
walks-as id.Sha1 a o w s =
    with-kind texts (file_in o) (λ path. looking w (key.Read path) (λ x. once (digest_item sha1 x)))
    (λ path. once-kind texts (digest_item sha1 (shown w (key.Read path))) (digest-kind sha1 (shown w (key.Read path))))
walks-as id.Sha256 a o w s =
    with-kind texts (file_in o) (λ path. looking w (key.Read path) (λ x. once (digest_item sha256 x)))
    (λ path. once-kind texts (digest_item sha256 (shown w (key.Read path))) (digest-kind sha256 (shown w (key.Read path))))
walks-as id.OperatingSystem a o w s = once-kind systems (system_item (shown w key.System)) (system-kind (shown w key.System))
walks-as id.ComputerName a o w s = once-kind texts (name_item (shown w key.ComputerName)) (name-kind (shown w key.ComputerName))
walks-as id.Process a o w s = processes-kind (text_in a) (shown w key.Processes)
walks-as id.Package a o w s = packages-kind (text_in a) (shown w key.Packages)
walks-as id.Version a o w s = made_once-kind versions version (version_in o) (λ x. refl)
walks-as id.Client a o w s = (refl, tt)
walks-as id.Action a o w s = (refl, tt)
walks-as id.Setting a o w s = settings-kind (text_in a) (shown w key.Settings)
walks-as id.Value a o w s = text_once-kind (value_in o)
walks-as id.EffectiveDate a o w s = made_once-kind times time (date_in o) (λ x. refl)
walks-as id.IntegerIn a o w s =
    with-kind integers (bounds_in a) (λ b. turns (map integer_item (integers_between b.from b.to)))
    (λ b. turns-kind integers integer_item (integers_between b.from b.to) (λ z. refl))
walks-as id.Length a o w s = with-kind integers (text_in o) (λ t. walk.one (integer (pos (length (chars t))))) (λ t. (refl, tt))
walks-as id.First a o w s =
    with-kind text_parts (text_in a) (λ p. with (text_in o) (λ t. once (first_item p t))) (λ p.
    with-kind text_parts (text_in o) (λ t. once (first_item p t)) (λ t. once-kind text_parts (first_item p t) (first-kind p t)))
walks-as id.Last a o w s =
    with-kind text_parts (text_in a) (λ p. with (text_in o) (λ t. once (last_item p t))) (λ p.
    with-kind text_parts (text_in o) (λ t. once (last_item p t)) (λ t. once-kind text_parts (last_item p t) (last-kind p t)))
walks-as id.PrecedingText a o w s = text_once-kind (preceding_in o)
walks-as id.FollowingText a o w s = text_once-kind (following_in o)
walks-as id.SubstringSeparatedBy a o w s =
    with-kind texts (text_in a) (λ x. with (text_in o) (λ t. turns (map text_item (pieces_by x t)))) (λ x.
    with-kind texts (text_in o) (λ t. turns (map text_item (pieces_by x t))) (λ t. turns-kind texts text_item (pieces_by x t) text-kind))
walks-as id.Parameter a o w s = with-kind texts (text_in a) (λ name. once (text_item_of (value_of name s.parameters))) (λ name. text_once-kind (value_of name s.parameters))
walks-as id.ExitCode a o w s = made_once-kind integers integer s.exit (λ x. refl)
walks-as id.Item a o w s = tt

pub property-keeps : (i : PropertyId) (k : PlainKind) → kind_said i ≡ Some k → PropertyKeeps i k
property-keeps i k e p a o w s = placed-kind k p (prop i a o w s) (subst (λ x. WalksAs x (prop i a o w s)) e (walks-as i a o w s))

-- ---- item

pub parts-kinds : (ps : Parts) → kind_list (kinds_of ps) ≡ map kind_of (part_list ps)
parts-kinds no_parts = refl
parts-kinds (more_parts ps v) = ap (λ ks. ks ++ (kind_of v ∷ [])) (parts-kinds ps) ∙ sym (map-append kind_of (part_list ps) (v ∷ []))

some-kind : (k : PlainKind) (o : Option Plain) → option_map kind_of o ≡ Some k → HasKind k (item_of o)
some-kind k None h = tt
some-kind k (Some v) h = some_same (kind_of v) k h

numbered-kind : (k : PlainKind) (n : ℤ) (ps : Parts) → kind_at n (kind_list (kinds_of ps)) ≡ Some k → HasKind k (item_of (part_numbered n (part_list ps)))
numbered-kind k (pos n) ps h =
    some-kind k (slice_get (part_list ps) n)
    (sym (slice_get-map kind_of (part_list ps) n) ∙ ap (λ ks. slice_get ks n) (sym (parts-kinds ps)) ∙ h)
numbered-kind k (negsuc n) ps h = tt

some-one : (k : PlainKind) (o : Option Plain) (p : Place) → option_map kind_of o ≡ Some k → GivesOne (placed p (once (item_of o)))
some-one k None p h = absurd (none_some k h)
some-one k (Some v) p h = refl

numbered-one : (k : PlainKind) (n : ℤ) (ps : Parts) (p : Place) → kind_at n (kind_list (kinds_of ps)) ≡ Some k → GivesOne (placed p (once (item_of (part_numbered n (part_list ps)))))
numbered-one k (pos n) ps p h =
    some-one k (slice_get (part_list ps) n) p
    (sym (slice_get-map kind_of (part_list ps) n) ∙ ap (λ ks. slice_get ks n) (sym (parts-kinds ps)) ∙ h)
numbered-one k (negsuc n) ps p h = absurd (none_some k h)

-- the part of this number has the kind of this number
pub item-keeps : (k : PlainKind) (n : ℤ) (ks : PlainKinds) (y : Plain) → kind_at n (kind_list ks) ≡ Some k → kind_of y ≡ tuples ks → (p : Place) (w : WorldState) (s : Scene) → GivesKind k (placed p (prop id.Item (Some (integer n)) (Some y) w s))
item-keeps k n ks (tuple ps) h e p w s =
    placed-kind k p (once (item_of (part_numbered n (part_list ps))))
    (once-kind k (item_of (part_numbered n (part_list ps))) (numbered-kind k n ps (subst (λ js. kind_at n (kind_list js) ≡ Some k) (sym (same_tuples (kinds_of ps) ks e)) h)))
item-keeps k n ks _ h e p w s = tt

-- and there is one
pub item-one : (k : PlainKind) (n : ℤ) (ks : PlainKinds) (y : Plain) → kind_at n (kind_list ks) ≡ Some k → kind_of y ≡ tuples ks → (p : Place) (w : WorldState) (s : Scene) → GivesOne (placed p (prop id.Item (Some (integer n)) (Some y) w s))
item-one k n ks (tuple ps) h e p w s = numbered-one k n ps p (subst (λ js. kind_at n (kind_list js) ≡ Some k) (sym (same_tuples (kinds_of ps) ks e)) h)
item-one k n ks _ h e p w s = absurd (false_true (ap is_tuple e))
