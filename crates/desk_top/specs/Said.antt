-- What a command does, where that input was read from the source.
use Rattle.std.specs.Prelude.{◌≡◌, ◌⊎◌, ⊤, ℕ, pos, ℤ, List, All, None, Some, Ok, Err}
use Rattle.std.specs.Io.KnownBytes.{Appends}
use Rattle.bf_world.specs.Worlds.{WorldState}
use Rattle.desk_base.specs.Flow.{AppendsFront, AppendsSome, IsFront}
use Rattle.desk_base.specs.Views.{SinkView}
use Rattle.rel_session.specs.Lines.{lines_of}
use Rattle.rel_eval.specs.Questions.{Reads}
use Rattle.rel_session.specs.Sessions.{Run, Runs, IsFrontOfRun, fresh}
use Rattle.rel_session.specs.Devices.{Devices, DidAll, DidFront}
use Rattle.desk_top.specs.declared.command.DeskCommand.{DeskCommand}
use Rattle.desk_top.specs.declared.command.DeskCommand.TheVariants.{Qna, QnaWorld, Check, Office, Make, Serve, Relay, Agent, Session, Help}
use Rattle.site_check.specs.declared.finding.Finding.{Finding}
use Rattle.site_check.specs.declared.finding.Finding.TheVariants.{Good, Memory}
use Rattle.site_check.specs.Findings.{Finds}
use Rattle.site_check.specs.Lines.{finding_line}
use Rattle.office_text.specs.Made.{office_of}
use Rattle.desk_base.specs.declared.sink.Put.TheVariants as put
use Rattle.desk_serve.specs.declared.step.Stop.{Stop}
use Rattle.desk_runs.specs.declared.rounding.AgentStop.{AgentStop}
use Rattle.desk_top.specs.declared.status.Status.{Status}
use Rattle.desk_top.specs.declared.status.Status.TheVariants.{Sink}
use Rattle.desk_top.specs.AllDevices.{AllDevices, asking, relaying, rounding, serving, tables}
use Rattle.desk_top.specs.Commands.{help_text}
use Rattle.desk_top.specs.Relayed.{RelaysAt}
use Rattle.desk_top.specs.Questioned.{AsksAt, BeganAsking}
use Rattle.desk_top.specs.Rounded.{RefusesPocket, RoundsAt, status_of_rounds}
use Rattle.desk_top.specs.OfficeInputs.{BeginsPlay, IsBadOffice, IsOfficeInput, PlaysInput}
use Rattle.desk_top.specs.Served.{ServesAt, status_of_stop}
use Rattle.desk_top.specs.WorldInputs.{IsBadInput, IsWorldInput, bad_line}

-- The lines are answered by a described world, at its moment and in its offset. No look fails.
abbrev pub DidDescribed : WorldState → List ℕ → SinkView → SinkView → Type 0
DidDescribed w rest old new = (moments : List ℤ) × (run : Run) × Runs Reads (Some w) w.offset fresh (lines_of rest) moments run
    × All (λ moment. moment ≡ w.moment) moments × (run.faults ≡ 0) × Appends old.held new.held run.bytes

-- A front of that was done.
abbrev pub DidDescribedFront : WorldState → List ℕ → SinkView → SinkView → Type 0
DidDescribedFront w rest old new =
    (moments : List ℤ) × (front : Run) × IsFrontOfRun Reads (Some w) w.offset fresh (lines_of rest) moments front
    × All (λ moment. moment ≡ w.moment) moments × (front.faults ≡ 0) × Appends old.held new.held front.bytes

-- Questions are answered in the offset 0, by the machine's world where that is told.
abbrev pub DidQuestions : List ℕ → Devices → Devices → Type 0
DidQuestions input old new = DidAll Reads (pos 0) fresh (lines_of input) None old new

-- A front of that was done.
abbrev pub DidQuestionsFront : List ℕ → Devices → Devices → Type 0
DidQuestionsFront input old new = DidFront Reads (pos 0) fresh (lines_of input) None old new

-- A command did all that it is to do.
abbrev pub Did : DeskCommand → List ℕ → AllDevices → AllDevices → Type 0
Did Qna input old new = DidQuestions input (asking old) (asking new)
Did QnaWorld input old new = (w : WorldState) × (rest : List ℕ) × IsWorldInput input w rest × DidDescribed w rest old.sink new.sink
Did Check input old new =
    (fixlets baselines : ℕ) × Finds input (Good fixlets baselines)
    × Appends old.sink.held new.sink.held (finding_line (Good fixlets baselines))
Did Office input old new = PlaysInput input old.sink.held new.sink.held
Did (Make number) input old new = Appends old.sink.held new.sink.held (office_of number)
Did (Serve asked) input old new = ServesAt asked (serving old) (Ok tt) (serving new)
Did (Relay asked) input old new = RelaysAt asked (relaying old) (Ok tt) (relaying new)
Did (Agent asked) input old new = RoundsAt asked (rounding old) (Ok tt) (rounding new)
Did (Session asked) input old new = AsksAt input (tables old) (tables new)
Did Help input old new = Appends old.sink.held new.sink.held help_text

-- What is found in a site's text is a refusal.
abbrev pub IsRefusal : Finding → Type 0
IsRefusal (Good fixlets baselines) = ⊥
IsRefusal Memory = ⊥
IsRefusal _ = ⊤

-- The command refuses the input, and this is what is said of it.
abbrev pub Refuses : DeskCommand → List ℕ → List ℕ → Type 0
Refuses Qna input line = ⊥
Refuses QnaWorld input line = (number : ℕ) × IsBadInput input number × (line ≡ bad_line number)
Refuses Check input line = (finding : Finding) × Finds input finding × IsRefusal finding × (line ≡ finding_line finding)
Refuses Office input line = (number : ℕ) × IsBadOffice input number × (line ≡ bad_line number)
Refuses (Make number) input line = ⊥
Refuses (Serve asked) input line = ⊥
Refuses (Relay asked) input line = ⊥
Refuses (Agent asked) input line = ⊥
Refuses (Session asked) input line = ⊥
Refuses Help input line = ⊥

-- The command refuses the input, and P holds of what is said of it.
abbrev pub IsRefused : DeskCommand → List ℕ → (List ℕ → Type 0) → Type 0
IsRefused command input P = (line : List ℕ) × Refuses command input line × P line

-- A front of it was done, before what this status tells ended it.
abbrev pub Began : Status → DeskCommand → List ℕ → AllDevices → AllDevices → Type 0
Began status Qna input old new = DidQuestionsFront input (asking old) (asking new)
Began status QnaWorld input old new =
    ((w : WorldState) × (rest : List ℕ) × IsWorldInput input w rest × DidDescribedFront w rest old.sink new.sink)
    ⊎ IsRefused QnaWorld input (AppendsFront old.sink.held new.sink.held)
Began status Check input old new =
    ((fixlets baselines : ℕ) × Finds input (Good fixlets baselines)
    × AppendsFront old.sink.held new.sink.held (finding_line (Good fixlets baselines)))
    ⊎ IsRefused Check input (AppendsFront old.sink.held new.sink.held)
Began status Office input old new =
    BeginsPlay input old.sink.held new.sink.held ⊎ IsRefused Office input (AppendsFront old.sink.held new.sink.held)
Began status (Make number) input old new = AppendsSome old.sink.held new.sink.held (IsFront (office_of number))
Began status (Serve asked) input old new =
    (why : Stop) × (status ≡ status_of_stop why) × ServesAt asked (serving old) (Err why) (serving new)
Began status (Relay asked) input old new =
    (why : Stop) × (status ≡ status_of_stop why) × RelaysAt asked (relaying old) (Err why) (relaying new)
Began status (Agent asked) input old new =
    ((status ≡ Sink) × (line : ℕ) × RefusesPocket asked line (rounding old) put.Failed (rounding new))
    ⊎ ((why : AgentStop) × (status ≡ status_of_rounds why) × RoundsAt asked (rounding old) (Err why) (rounding new))
Began status (Session asked) input old new = BeganAsking input (tables old) (tables new)
Began status Help input old new = AppendsSome old.sink.held new.sink.held (IsFront help_text)

-- The command asks the machine.
abbrev pub AsksMachine : DeskCommand → Type 0
AsksMachine Qna = ⊤
AsksMachine (Agent asked) = ⊤
AsksMachine _ = ⊥

-- The command asks the clock.
abbrev pub AsksClock : DeskCommand → Type 0
AsksClock Qna = ⊤
AsksClock (Agent asked) = ⊤
AsksClock (Session asked) = ⊤
AsksClock _ = ⊥

-- The input is one that the command does not refuse. Each line of questions is, and where nothing is read nothing is refused.
abbrev pub IsGoodInput : DeskCommand → List ℕ → Type 0
IsGoodInput Qna input = ⊤
IsGoodInput QnaWorld input = (w : WorldState) × (rest : List ℕ) × IsWorldInput input w rest
IsGoodInput Check input = (fixlets baselines : ℕ) × Finds input (Good fixlets baselines)
IsGoodInput Office input = IsOfficeInput input
IsGoodInput (Make number) input = ⊤
IsGoodInput (Serve asked) input = ⊤
IsGoodInput (Relay asked) input = ⊤
IsGoodInput (Agent asked) input = ⊤
IsGoodInput (Session asked) input = ⊤
IsGoodInput Help input = ⊤
