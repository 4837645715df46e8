-- A text has one finding.
use Rattle.std.proofs.Common.{◌≡◌, ◌≢◌, ℕ, Bool, true, false, List, [], ◌∷◌, ◌++◌, All, count_by, Result, Ok, Err, ◌⊎◌, inl, inr, refl, sym, ap, subst, ◌∙◌}
use Rattle.std.proofs.lemmas.List.Elements.{All-head, All-tail}
use Rattle.rel_lexer.specs.declared.place.Place.{Place}
use Rattle.rel_types.specs.Plans.{PlainNode}
use Rattle.rel_trace.specs.declared.kind.RelKind.{RelKind}
use Rattle.rel_eval.specs.Questions.{Reading, question, refused, undefined, Reads}
use Rattle.script_text.specs.declared.error.ScriptError.{ScriptError}
use Rattle.script_text.specs.declared.error.ScriptError.TheVariants as error
use Rattle.script_text.specs.Refusals.{error_line}
use Rattle.script_text.specs.Scripts.{PlainScript, IsVerdict}
use Rattle.fix_site.specs.declared.piece.Piece.{Piece}
use Rattle.fix_site.specs.declared.piece.Piece.TheVariants.{Relevance, Script}
use Rattle.fix_site.specs.declared.site.Site.{Site}
use Rattle.fix_site.specs.declared.error.SiteError.{SiteError}
use Rattle.fix_site.specs.declared.error.SiteError.TheVariants as site
use Rattle.fix_site.specs.Answers.{ReadsSite}
use Rattle.fix_site.specs.Pieces.{pieces_of}
use Rattle.site_check.specs.declared.finding.Finding.{Finding}
use Rattle.site_check.specs.declared.finding.Finding.TheVariants.{Good, BadLine, TwiceId, WrongDigest, TooLong, BadPiece, Memory}
use Rattle.site_check.specs.declared.refusal.PieceRefusal.{PieceRefusal}
use Rattle.site_check.specs.declared.refusal.PieceRefusal.TheVariants as refusal
use Rattle.site_check.specs.declared.refusal.QuestionFault.{QuestionFault}
use Rattle.site_check.specs.declared.refusal.ScriptFault.{ScriptFault}
use Rattle.site_check.specs.declared.refusal.ScriptFault.TheVariants as script
use Rattle.site_check.specs.Pieces.{IsTruth, IsNoTruth, IsWrongReading, IsGoodPiece, IsRefusedPiece, line_in_text, script_error}
use Rattle.site_check.specs.Findings.{FirstRefused, Finds, is_fixlet, is_baseline}

-- the laws of what pieces are read as
abbrev pub OnePlan : Type 0
OnePlan = (text : List ℕ) (x y : Reading) → Reads text x → Reads text y → x ≡ y

abbrev pub OneReading : Type 0
OneReading = (text : List ℕ) (answer other : Result Site SiteError) → answer ≢ Err site.Memory → other ≢ Err site.Memory → ReadsSite text answer → ReadsSite text other → answer ≡ other

abbrev pub OneVerdict : Type 0
OneVerdict = (lines : List (List ℕ)) (x y : Result PlainScript ScriptError) → IsVerdict lines x → IsVerdict lines y → x ≡ y

true_false : (b : Bool) → b ≡ true → b ≡ false → ⊥
true_false b one other = cc

-- a plan gives a truth or has one fault
truth_or_none : (plan : PlainNode) (kind : RelKind) → IsTruth plan → IsNoTruth plan kind → ⊥
truth_or_none plan kind is (inl several) = true_false _ several.0 is.singular
truth_or_none plan kind is (inr other) = true_false _ is.boolean other.1

one_fault : (plan : PlainNode) (x y : RelKind) → IsNoTruth plan x → IsNoTruth plan y → x ≡ y
one_fault plan x y (inl h) (inl k) = h.1 ∙ sym k.1
one_fault plan x y (inl h) (inr k) = absurd (true_false _ h.0 k.0)
one_fault plan x y (inr h) (inl k) = absurd (true_false _ k.0 h.0)
one_fault plan x y (inr h) (inr k) = h.2 ∙ sym k.2

one_wrong : (reading : Reading) (x y : RelKind) (p q : Place) → IsWrongReading reading x p → IsWrongReading reading y q → (x ≡ y) × (p ≡ q)
one_wrong (question plan) x y p q h k = (one_fault plan x y h.0 k.0, h.1 ∙ sym k.1)
one_wrong (refused fault at) x y p q h k = (h.0 ∙ sym k.0, h.1 ∙ sym k.1)
one_wrong (undefined at words) x y p q h k = (h.0 ∙ sym k.0, h.1 ∙ sym k.1)

abbrev script_is : PlainScript → Result PlainScript ScriptError
script_is script = Ok script

abbrev refused_for : ScriptError → Result PlainScript ScriptError
refused_for error = Err error

script_or_none : (script : PlainScript) (error : ScriptError) → script_is script ≡ refused_for error → ⊥
script_or_none script error e = cc

same_error : (x y : ScriptError) → refused_for x ≡ refused_for y → x ≡ y
same_error x y e = cc

-- a piece is good or refused
good_or_refused : OnePlan → OneVerdict → (p : Piece) (why : PieceRefusal) → IsGoodPiece p → IsRefusedPiece p why → ⊥
good_or_refused plans verdicts (Relevance line text) (refusal.Question at fault) good h =
    let P : Reading → Type 0 = λ reading. IsWrongReading reading fault.kind fault.place in
    let wrong = h.1 in
    truth_or_none good.0 fault.kind good.2 (subst P (plans text wrong.0 (question good.0) wrong.1 good.1) wrong.2).0
good_or_refused plans verdicts (Script line lines) (refusal.Script at fault) good h =
    script_or_none good.0 (script_error fault h.0) (verdicts lines (Ok good.0) (Err (script_error fault h.0)) good.1 h.1)
good_or_refused plans verdicts p why good h = absurd h

-- a fault is known by its parts
abbrev fault_at : RelKind → Place → QuestionFault
fault_at kind place = record { kind = kind; place = place }

same_question : (a b : ℕ) (x y : QuestionFault) → a ≡ b → x.kind ≡ y.kind → x.place ≡ y.place → refusal.Question a x ≡ refusal.Question b y
same_question a b x y e f g =
    let fault : x ≡ y = ap (λ k. fault_at k x.place) f ∙ ap (λ p. fault_at y.kind p) g in
    cc

-- what an error says beside its line
abbrev fault_in : ScriptError → ScriptFault
fault_in (error.NoCommand line) = script.NoCommand
fault_in (error.IfNotClosed line) = script.IfNotClosed
fault_in (error.StrayElse line) = script.StrayElse
fault_in (error.BraceNotClosed line) = script.BraceNotClosed
fault_in (error.CreateNotClosed line) = script.CreateNotClosed
fault_in error.Memory = script.NoCommand

parts_of : (fault : ScriptFault) (line : ℕ) → (fault_in (script_error fault line) ≡ fault) × (error_line (script_error fault line) ≡ line)
parts_of script.NoCommand line = (refl, refl)
parts_of script.IfNotClosed line = (refl, refl)
parts_of script.StrayElse line = (refl, refl)
parts_of script.BraceNotClosed line = (refl, refl)
parts_of script.CreateNotClosed line = (refl, refl)

same_script : (first a b m n : ℕ) (x y : ScriptFault) → script_error x m ≡ script_error y n → a ≡ line_in_text first m → b ≡ line_in_text first n → refusal.Script a x ≡ refusal.Script b y
same_script first a b m n x y e f g =
    let fault : x ≡ y = sym (parts_of x m).0 ∙ ap fault_in e ∙ (parts_of y n).0 in
    let line : m ≡ n = sym (parts_of x m).1 ∙ ap error_line e ∙ (parts_of y n).1 in
    let at : a ≡ b = f ∙ ap (line_in_text first) line ∙ sym g in
    cc

-- a piece is refused in one way
one_refusal : OnePlan → OneVerdict → (piece : Piece) (x y : PieceRefusal) → IsRefusedPiece piece x → IsRefusedPiece piece y → x ≡ y
one_refusal plans verdicts (Relevance line text) (refusal.Question a x) (refusal.Question b y) h k =
    let mine = h.1 in
    let yours = k.1 in
    let P : Reading → Type 0 = λ reading. IsWrongReading reading y.kind y.place in
    let same = one_wrong mine.0 x.kind y.kind x.place y.place mine.2 (subst P (plans text yours.0 mine.0 yours.1 mine.1) yours.2) in
    same_question a b x y (h.0 ∙ sym k.0) same.0 same.1
one_refusal plans verdicts (Script line lines) (refusal.Script a x) (refusal.Script b y) h k =
    let own = same_error (script_error x h.0) (script_error y k.0) (verdicts lines (Err (script_error x h.0)) (Err (script_error y k.0)) h.1 k.1) in
    same_script line a b h.0 k.0 x y own h.2 k.2
one_refusal plans verdicts (Relevance line text) (refusal.Question a x) y h k = absurd k
one_refusal plans verdicts (Script line lines) (refusal.Script a x) y h k = absurd k
one_refusal plans verdicts piece x y h k = absurd h

good_at : (before : List Piece) (p : Piece) (behind : List Piece) → All IsGoodPiece (before ++ p ∷ behind) → IsGoodPiece p
good_at [] p behind all = All-head IsGoodPiece p behind all
good_at (b ∷ before) p behind all = good_at before p behind (All-tail IsGoodPiece b (before ++ p ∷ behind) all)

none_refused : OnePlan → OneVerdict → (pieces : List Piece) (why : PieceRefusal) → All IsGoodPiece pieces → FirstRefused pieces why → ⊥
none_refused plans verdicts pieces why all h =
    let P : List Piece → Type 0 = All IsGoodPiece in
    good_or_refused plans verdicts h.piece why (good_at h.before h.piece h.behind (subst P h.splits all)) h.wrong

head_same : (x y : Piece) (xs ys : List Piece) → x ∷ xs ≡ y ∷ ys → x ≡ y
head_same x y xs ys e = cc

tail_same : (x y : Piece) (xs ys : List Piece) → x ∷ xs ≡ y ∷ ys → xs ≡ ys
tail_same x y xs ys e = cc

-- the first piece that is refused is one
first_same : OnePlan → OneVerdict → (xs ys : List Piece) (p q : Piece) (us vs : List Piece) (x y : PieceRefusal) → xs ++ p ∷ us ≡ ys ++ q ∷ vs → All IsGoodPiece xs → All IsGoodPiece ys → IsRefusedPiece p x → IsRefusedPiece q y → p ≡ q
first_same plans verdicts [] [] p q us vs x y e good fine h k = head_same p q us vs e
first_same plans verdicts [] (b ∷ ys) p q us vs x y e good fine h k =
    absurd (good_or_refused plans verdicts p x (subst IsGoodPiece (sym (head_same p b us (ys ++ q ∷ vs) e)) (All-head IsGoodPiece b ys fine)) h)
first_same plans verdicts (a ∷ xs) [] p q us vs x y e good fine h k =
    absurd (good_or_refused plans verdicts q y (subst IsGoodPiece (head_same a q (xs ++ p ∷ us) vs e) (All-head IsGoodPiece a xs good)) k)
first_same plans verdicts (a ∷ xs) (b ∷ ys) p q us vs x y e good fine h k =
    first_same plans verdicts xs ys p q us vs x y (tail_same a b (xs ++ p ∷ us) (ys ++ q ∷ vs) e) (All-tail IsGoodPiece a xs good) (All-tail IsGoodPiece b ys fine) h k

one_first : OnePlan → OneVerdict → (pieces : List Piece) (x y : PieceRefusal) → FirstRefused pieces x → FirstRefused pieces y → x ≡ y
one_first plans verdicts pieces x y h k =
    let same = first_same plans verdicts h.before k.before h.piece k.piece h.behind k.behind x y (sym h.splits ∙ k.splits) h.good k.good h.wrong k.wrong in
    let P : Piece → Type 0 = λ piece. IsRefusedPiece piece x in
    one_refusal plans verdicts k.piece x y (subst P same h.wrong) k.wrong

-- what is found where the site's lines are good
abbrev InSite : Site → Finding → Type 0
InSite s finding =
    (All IsGoodPiece (pieces_of s) × (finding ≡ Good (count_by is_fixlet s.blocks) (count_by is_baseline s.blocks))) ⊎ ((why : PieceRefusal) × FirstRefused (pieces_of s) why × (finding ≡ BadPiece why))

one_in_site : OnePlan → OneVerdict → (s : Site) (x y : Finding) → InSite s x → InSite s y → x ≡ y
one_in_site plans verdicts s x y (inl h) (inl k) = h.1 ∙ sym k.1
one_in_site plans verdicts s x y (inl h) (inr k) = absurd (none_refused plans verdicts (pieces_of s) k.0 h.0 k.1)
one_in_site plans verdicts s x y (inr h) (inl k) = absurd (none_refused plans verdicts (pieces_of s) h.0 k.0 h.1)
one_in_site plans verdicts s x y (inr h) (inr k) = h.2 ∙ ap (λ why. BadPiece why) (one_first plans verdicts (pieces_of s) h.0 k.0 h.1 k.1) ∙ sym k.2

-- what is found where a text isn't read
abbrev unread : SiteError → Finding
unread (site.BadLine line) = BadLine line
unread (site.TwiceId line) = TwiceId line
unread (site.WrongDigest stated found) = WrongDigest stated found
unread site.TooLong = TooLong
unread site.Memory = Memory

abbrev Follows : Result Site SiteError → Finding → Type 0
Follows (Ok s) finding = InSite s finding
Follows (Err e) finding = finding ≡ unread e

one_following : OnePlan → OneVerdict → (answer : Result Site SiteError) (x y : Finding) → Follows answer x → Follows answer y → x ≡ y
one_following plans verdicts (Ok s) x y h k = one_in_site plans verdicts s x y h k
one_following plans verdicts (Err e) x y h k = h ∙ sym k

-- A finding follows from what a text is read as.
record Rests (text : List ℕ) (finding : Finding) : Type 0 where
  answer : Result Site SiteError
  known : answer ≢ Err site.Memory
  reads : ReadsSite text answer
  follows : Follows answer finding

same_good : (a b c d : ℕ) → a ≡ c → b ≡ d → Good a b ≡ Good c d
same_good a b c d e f = cc

abbrev read_as : Site → Result Site SiteError
read_as s = Ok s

abbrev unread_for : SiteError → Result Site SiteError
unread_for e = Err e

some_site : (s : Site) → read_as s ≢ unread_for site.Memory
some_site s is = cc

same_cause : (e f : SiteError) → unread_for e ≡ unread_for f → e ≡ f
same_cause e f is = cc

some_error : (e : SiteError) → unread e ≢ Memory → unread_for e ≢ unread_for site.Memory
some_error e other is = other (ap unread (same_cause e site.Memory is))

rests : (text : List ℕ) (x : Finding) → x ≢ Memory → Finds text x → Rests text x
rests text (Good fixlets baselines) some h = record {
  answer = Ok h.site;
  known = some_site h.site;
  reads = h.reads;
  follows = inl (h.pieces, same_good fixlets baselines (count_by is_fixlet h.site.blocks) (count_by is_baseline h.site.blocks) h.fixlet_count h.baseline_count);
}
rests text (BadLine line) some h = record { answer = Err (site.BadLine line); known = some_error (site.BadLine line) some; reads = h; follows = refl }
rests text (TwiceId line) some h = record { answer = Err (site.TwiceId line); known = some_error (site.TwiceId line) some; reads = h; follows = refl }
rests text (WrongDigest stated found) some h =
    record { answer = Err (site.WrongDigest stated found); known = some_error (site.WrongDigest stated found) some; reads = h; follows = refl }
rests text TooLong some h = record { answer = Err site.TooLong; known = some_error site.TooLong some; reads = h; follows = refl }
rests text (BadPiece why) some h = record { answer = Ok h.0; known = some_site h.0; reads = h.1; follows = inr (why, h.2, refl) }
rests text Memory some h = absurd (some refl)

pub one_found : OneReading → OnePlan → OneVerdict → (text : List ℕ) (x y : Finding) → Finds text x → Finds text y → x ≢ Memory → y ≢ Memory → x ≡ y
one_found readings plans verdicts text x y h k some other =
    let mine = rests text x some h in
    let yours = rests text y other k in
    let P : Result Site SiteError → Type 0 = λ answer. Follows answer y in
    one_following plans verdicts mine.answer x y mine.follows
    (subst P (readings text yours.answer mine.answer yours.known mine.known yours.reads mine.reads) yours.follows)
