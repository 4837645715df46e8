-- How what is done inside of a command ends it, by its status.
use Rattle.std.proofs.Common.{◌≡◌, ◌≢◌, ◌⊎◌, ℕ, List, [], Some, inl, inr, refl, sym, subst}
use Rattle.std.specs.Io.KnownBytes.{Appends}
use Rattle.std.specs.declared.result.Result.{Result}
use Rattle.std.specs.declared.result.Result.TheVariants.{Ok, Err}
use Rattle.desk_base.specs.Views.{SinkView}
use Rattle.bf_world.specs.Worlds.{WorldState}
use Rattle.world_text.specs.declared.error.WorldError.{WorldError}
use Rattle.world_text.specs.declared.error.WorldError.TheVariants as world_error
use Rattle.line_forms.specs.LineStates as states
use Rattle.office_text.specs.declared.order.Order.{Order}
use Rattle.office_text.specs.declared.error.OfficeError.{OfficeError}
use Rattle.office_text.specs.declared.error.OfficeError.TheVariants as office_error
use Rattle.office_text.specs.Offices.{IsOffice, ReadsOffice}
use Rattle.world_text.specs.Fronts.{Splits}
use Rattle.world_text.specs.Texts.{Describes, ReadsWorld}
use Rattle.desk_top.specs.declared.command.DeskCommand.{DeskCommand}
use Rattle.desk_top.specs.declared.command.DeskCommand.TheVariants.{Qna, QnaWorld, Check, Office, Make, Serve, Relay, Agent, Session, Help}
use Rattle.desk_top.specs.declared.status.Status.{Status}
use Rattle.desk_top.specs.declared.status.Status.TheVariants.{Done, Usage, Refused, Source, Sink, Clock, Pocket, Keeper, Door, Memory, InputTooLong}
use Rattle.site_check.specs.declared.finding.Finding.{Finding}
use Rattle.site_check.specs.declared.finding.Finding.TheVariants as finding
use Rattle.site_check.specs.Findings.{Finds}
use Rattle.site_check.specs.Lines.{finding_line}
use Rattle.office_play.specs.declared.play.PlayEnd.{PlayEnd}
use Rattle.office_play.specs.declared.play.PlayEnd.TheVariants as end
use Rattle.office_play.specs.Plays.{WritesPlay}
use Rattle.desk_top.specs.Asked.{RefusalEnds, TextEnds, status_of_finding, status_of_play}
use Rattle.desk_top.specs.Said.{IsGoodInput, IsRefusal, Refuses}
use Rattle.desk_top.specs.OfficeInputs.{IsBadOffice}
use Rattle.desk_top.specs.WorldInputs.{IsBadInput, bad_line}

no_bad_answer : (w : WorldState) (answer : Result WorldState WorldError) (number : ℕ) → answer ≡ Err (world_error.BadLine number) → (answer ≡ Ok w) ⊎ (answer ≡ Err world_error.Memory) → ⊥
no_bad_answer w answer number is (inl ok) = cc
no_bad_answer w answer number is (inr memory) = cc

-- a text begins with one world's text
abbrev pub OneFront : Type 0
OneFront = (text world rest other left : List ℕ) → Splits text world rest → Splits text other left → world ≡ other

-- a text that describes a world is read as that, or want of memory stands in its place
abbrev pub WorldIsRead : Type 0
WorldIsRead = (text : List ℕ) (w : WorldState) (answer : Result WorldState WorldError) → states.unended_of text ≡ [] → Describes (states.lines_of text) w → ReadsWorld text answer → (answer ≡ Ok w) ⊎ (answer ≡ Err world_error.Memory)

-- an input with the text of a world has no bad line
pub good_not_bad : OneFront → WorldIsRead → (input : List ℕ) (number : ℕ) → IsGoodInput QnaWorld input → IsBadInput input number → ⊥
good_not_bad one is_read input number (w, rest, (text, splits, reads)) (text', rest', splits', reads') =
    let Refuses : List ℕ → Type 0 = λ l. ReadsWorld l (Err (world_error.BadLine number)) in
    let same : text ≡ text' = one input text rest text' rest' splits splits' in
    no_bad_answer w (Err (world_error.BadLine number)) number refl (is_read text w (Err (world_error.BadLine number)) reads.0 reads.1 (subst Refuses (sym same) reads'))

-- a text has one finding
abbrev pub OneFinding : Type 0
OneFinding = (text : List ℕ) (x y : Finding) → Finds text x → Finds text y → x ≢ finding.Memory → y ≢ finding.Memory → x ≡ y

pub refusal_known : (f : Finding) → IsRefusal f → f ≢ finding.Memory
refusal_known f refusal e = let P : Finding → Type 0 = IsRefusal in subst P e refusal

-- a refusal is no good finding
refusal_not_good : OneFinding → (text : List ℕ) (f : Finding) (fixlets baselines : ℕ) → Finds text f → IsRefusal f → Finds text (finding.Good fixlets baselines) → ⊥
refusal_not_good one text f fixlets baselines x refusal y =
    let Wrong : Finding → Type 0 = IsRefusal in
    subst Wrong (one text f (finding.Good fixlets baselines) x y (refusal_known f refusal) (λ e. cc)) refusal

-- a text that is that of an office is read as its orders, or want of memory stands in their place
abbrev pub OfficeIsRead : Type 0
OfficeIsRead = (text : List ℕ) (orders : List Order) (answer : Result (List Order) OfficeError) → states.unended_of text ≡ []
    → IsOffice orders (states.lines_of text) → ReadsOffice text answer → (answer ≡ Ok orders) ⊎ (answer ≡ Err office_error.Memory)

no_bad_office : (orders : List Order) (answer : Result (List Order) OfficeError) (number : ℕ) → answer ≡ Err (office_error.BadLine number)
    → (answer ≡ Ok orders) ⊎ (answer ≡ Err office_error.Memory) → ⊥
no_bad_office orders answer number is (inl ok) = cc
no_bad_office orders answer number is (inr memory) = cc

-- the text of an office has no bad line
office_not_bad : OfficeIsRead → (input : List ℕ) (orders : List Order) (number : ℕ) → ReadsOffice input (Ok orders) → IsBadOffice input number → ⊥
office_not_bad is_read input orders number reads bad =
    no_bad_office orders (Err (office_error.BadLine number)) number refl (is_read input orders (Err (office_error.BadLine number)) reads.0 reads.1 bad)

-- an input that a command takes isn't refused
pub good_not_refused : OneFinding → OneFront → WorldIsRead → OfficeIsRead → (k : DeskCommand) (input line : List ℕ) → IsGoodInput k input → Refuses k input line → ⊥
good_not_refused one front is_read office Qna input line good refused = refused
good_not_refused one front is_read office QnaWorld input line good (number, bad, is) = good_not_bad front is_read input number good bad
good_not_refused one front is_read office Check input line (fixlets, baselines, good) (f, found, refusal, is) = refusal_not_good one input f fixlets baselines found refusal good
good_not_refused one front is_read office Office input line (orders, reads) (number, bad, is) = office_not_bad office input orders number reads bad
good_not_refused one front is_read office (Make number) input line good refused = refused
good_not_refused one front is_read office (Serve asked) input line good refused = refused
good_not_refused one front is_read office (Relay asked) input line good refused = refused
good_not_refused one front is_read office (Agent asked) input line good refused = refused
good_not_refused one front is_read office (Session asked) input line good refused = refused
good_not_refused one front is_read office Help input line good refused = refused

checked_refused : OneFinding → (input : List ℕ) (f : Finding) (status : Status) (old new : SinkView) (Unwritten : Type 0) → IsRefusal f → status ≡ Refused → Finds input f
    → Appends old.held new.held (finding_line f) → TextEnds Check status input old new Unwritten
checked_refused one input f status old new Unwritten refusal is found written =
    let Ends : Status → Type 0 = λ s. TextEnds Check s input old new Unwritten in
    subst Ends (sym is) ((finding_line f, (f, found, refusal, refl), written), λ good. refusal_not_good one input f good.0 good.1 found refusal good.2)

-- the line of a finding was written
pub checked_ends : OneFinding → (input : List ℕ) (f : Finding) (status : Status) (old new : SinkView) (Unwritten : Type 0) → Finds input f → Some status ≡ status_of_finding f
    → Appends old.held new.held (finding_line f) → TextEnds Check status input old new Unwritten
checked_ends one input (finding.Good fixlets baselines) status old new Unwritten found ends written =
    let is : status ≡ Done = cc in
    let Ends : Status → Type 0 = λ s. TextEnds Check s input old new Unwritten in
    subst Ends (sym is) (fixlets, baselines, found, written)
checked_ends one input (finding.BadLine line) status old new Unwritten found ends written = checked_refused one input (finding.BadLine line) status old new Unwritten tt (cc) found written
checked_ends one input (finding.TwiceId line) status old new Unwritten found ends written = checked_refused one input (finding.TwiceId line) status old new Unwritten tt (cc) found written
checked_ends one input (finding.WrongDigest stated right) status old new Unwritten found ends written = checked_refused one input (finding.WrongDigest stated right) status old new Unwritten tt (cc) found written
checked_ends one input finding.TooLong status old new Unwritten found ends written = checked_refused one input finding.TooLong status old new Unwritten tt (cc) found written
checked_ends one input (finding.BadPiece refusal) status old new Unwritten found ends written = checked_refused one input (finding.BadPiece refusal) status old new Unwritten tt (cc) found written
checked_ends one input finding.Memory status old new Unwritten found ends written = absurd (cc)

-- the number of a bad line was written, or a front of that
pub refusal_ends : OneFront → WorldIsRead → (input : List ℕ) (number : ℕ) (status : Status) (old new : SinkView) (Unwritten : Type 0) → IsBadInput input number → RefusalEnds status number old new
    → TextEnds QnaWorld status input old new Unwritten
refusal_ends one is_read input number Refused old new Unwritten bad written = ((bad_line number, (number, bad, refl), written), λ good. good_not_bad one is_read input number good bad)
refusal_ends one is_read input number Sink old new Unwritten bad front = inr (bad_line number, (number, bad, refl), front)
refusal_ends one is_read input number Memory old new Unwritten bad front = inr (inr (bad_line number, (number, bad, refl), front))
refusal_ends one is_read input number Done old new Unwritten bad written = absurd written
refusal_ends one is_read input number Usage old new Unwritten bad written = absurd written
refusal_ends one is_read input number Source old new Unwritten bad written = absurd written
refusal_ends one is_read input number Clock old new Unwritten bad written = absurd written
refusal_ends one is_read input number Pocket old new Unwritten bad written = absurd written
refusal_ends one is_read input number Keeper old new Unwritten bad written = absurd written
refusal_ends one is_read input number Door old new Unwritten bad written = absurd written
refusal_ends one is_read input number InputTooLong old new Unwritten bad written = absurd written

-- so it is where an office is refused
pub office_refused : OfficeIsRead → (input : List ℕ) (number : ℕ) (status : Status) (old new : SinkView) (Unwritten : Type 0) → IsBadOffice input number → RefusalEnds status number old new
    → TextEnds Office status input old new Unwritten
office_refused is_read input number Refused old new Unwritten bad written = ((bad_line number, (number, bad, refl), written), λ good. office_not_bad is_read input good.0 number good.1 bad)
office_refused is_read input number Sink old new Unwritten bad front = inr (bad_line number, (number, bad, refl), front)
office_refused is_read input number Memory old new Unwritten bad front = inr (inr (bad_line number, (number, bad, refl), front))
office_refused is_read input number Done old new Unwritten bad written = absurd written
office_refused is_read input number Usage old new Unwritten bad written = absurd written
office_refused is_read input number Source old new Unwritten bad written = absurd written
office_refused is_read input number Clock old new Unwritten bad written = absurd written
office_refused is_read input number Pocket old new Unwritten bad written = absurd written
office_refused is_read input number Keeper old new Unwritten bad written = absurd written
office_refused is_read input number Door old new Unwritten bad written = absurd written
office_refused is_read input number InputTooLong old new Unwritten bad written = absurd written

played_as : (input : List ℕ) (orders : List Order) (how : PlayEnd) (old new : SinkView) (Unwritten : Type 0) → ReadsOffice input (Ok orders)
    → WritesPlay orders how old.held new.held → TextEnds Office (status_of_play how) input old new Unwritten
played_as input orders end.Done old new Unwritten reads written = (orders, reads, written)
played_as input orders end.Failed old new Unwritten reads written = inl (orders, reads, written)
played_as input orders end.Memory old new Unwritten reads written = inr (inl (orders, reads, written))

-- all that is printed of an office was written, or some of that
pub play_ends : (input : List ℕ) (orders : List Order) (how : PlayEnd) (status : Status) (old new : SinkView) (Unwritten : Type 0)
    → ReadsOffice input (Ok orders) → WritesPlay orders how old.held new.held → status ≡ status_of_play how
    → TextEnds Office status input old new Unwritten
play_ends input orders how status old new Unwritten reads written is =
    let Ends : Status → Type 0 = λ s. TextEnds Office s input old new Unwritten in
    subst Ends (sym is) (played_as input orders how old new Unwritten reads written)
