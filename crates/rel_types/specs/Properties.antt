-- The properties: the words for one value and for any number of them, what they ask of the argument and of the object, and what they
-- give.
use Rattle.std.specs.Prelude.{List, [], ◌∷◌, Some, None, codes}
use Rattle.rel_value.specs.declared.property.PropertyId.TheVariants as id
use Rattle.rel_types.specs.declared.head.Head.TheVariants.{Property}
use Rattle.rel_types.specs.declared.scalar.Scalar.TheVariants.{Boolean, Integer, Text, Part, Time, Interval, Version, File, Folder, Client, Setting, Process, Package, System, Action}
use Rattle.rel_types.specs.Rows.{Row, Asked, one_of, none_or, two_integers}

abbrev nothing : Asked
nothing = none_or []

unfoldable pub property_rows : List Row
property_rows =
    record { head = Property id.True; singular = codes "true"; plural = None; argument = nothing; object = nothing; gives = Boolean } ∷
    record { head = Property id.False; singular = codes "false"; plural = None; argument = nothing; object = nothing; gives = Boolean } ∷
    record { head = Property id.Second; singular = codes "second"; plural = Some (codes "seconds"); argument = nothing; object = nothing; gives = Interval } ∷
    record { head = Property id.Minute; singular = codes "minute"; plural = Some (codes "minutes"); argument = nothing; object = nothing; gives = Interval } ∷
    record { head = Property id.Hour; singular = codes "hour"; plural = Some (codes "hours"); argument = nothing; object = nothing; gives = Interval } ∷
    record { head = Property id.Day; singular = codes "day"; plural = Some (codes "days"); argument = nothing; object = nothing; gives = Interval } ∷
    record { head = Property id.Now; singular = codes "now"; plural = Some (codes "nows"); argument = nothing; object = nothing; gives = Time } ∷
    record { head = Property id.FileAt; singular = codes "file"; plural = Some (codes "files"); argument = one_of (Text ∷ []); object = nothing; gives = File } ∷
    record { head = Property id.FolderAt; singular = codes "folder"; plural = Some (codes "folders"); argument = one_of (Text ∷ []); object = nothing; gives = Folder } ∷
    record { head = Property id.FileNamed; singular = codes "file"; plural = Some (codes "files"); argument = one_of (Text ∷ []); object = one_of (Folder ∷ []); gives = File } ∷
    record { head = Property id.FolderNamed; singular = codes "folder"; plural = Some (codes "folders"); argument = one_of (Text ∷ []); object = one_of (Folder ∷ []); gives = Folder } ∷
    record { head = Property id.File; singular = codes "file"; plural = Some (codes "files"); argument = nothing; object = one_of (Folder ∷ []); gives = File } ∷
    record { head = Property id.Folder; singular = codes "folder"; plural = Some (codes "folders"); argument = nothing; object = one_of (Folder ∷ []); gives = Folder } ∷
    record { head = Property id.Descendant; singular = codes "descendant"; plural = Some (codes "descendants"); argument = nothing; object = one_of (Folder ∷ []); gives = File } ∷
    record { head = Property id.Name; singular = codes "name"; plural = Some (codes "names"); argument = nothing; object = one_of (File ∷ Folder ∷ Setting ∷ Process ∷ Package ∷ System ∷ []); gives = Text } ∷
    record { head = Property id.Pathname; singular = codes "pathname"; plural = Some (codes "pathnames"); argument = nothing; object = one_of (File ∷ Folder ∷ []); gives = Text } ∷
    record { head = Property id.Size; singular = codes "size"; plural = Some (codes "sizes"); argument = nothing; object = one_of (File ∷ []); gives = Integer } ∷
    record { head = Property id.ModificationTime; singular = codes "modification time"; plural = Some (codes "modification times"); argument = nothing; object = one_of (File ∷ []); gives = Time } ∷
    record { head = Property id.Line; singular = codes "line"; plural = Some (codes "lines"); argument = nothing; object = one_of (File ∷ []); gives = Text } ∷
    record { head = Property id.LineAt; singular = codes "line"; plural = Some (codes "lines"); argument = one_of (Integer ∷ []); object = one_of (File ∷ []); gives = Text } ∷
    record { head = Property id.LineContaining; singular = codes "line containing"; plural = Some (codes "lines containing"); argument = one_of (Text ∷ []); object = one_of (File ∷ []); gives = Text } ∷
    record { head = Property id.Sha1; singular = codes "sha1"; plural = Some (codes "sha1s"); argument = nothing; object = one_of (File ∷ []); gives = Text } ∷
    record { head = Property id.Sha256; singular = codes "sha256"; plural = Some (codes "sha256s"); argument = nothing; object = one_of (File ∷ []); gives = Text } ∷
    record { head = Property id.OperatingSystem; singular = codes "operating system"; plural = Some (codes "operating systems"); argument = nothing; object = nothing; gives = System } ∷
    record { head = Property id.ComputerName; singular = codes "computer name"; plural = Some (codes "computer names"); argument = nothing; object = nothing; gives = Text } ∷
    record { head = Property id.Process; singular = codes "process"; plural = Some (codes "processes"); argument = none_or (Text ∷ []); object = nothing; gives = Process } ∷
    record { head = Property id.Package; singular = codes "package"; plural = Some (codes "packages"); argument = none_or (Text ∷ []); object = nothing; gives = Package } ∷
    record { head = Property id.Version; singular = codes "version"; plural = Some (codes "versions"); argument = nothing; object = one_of (Package ∷ System ∷ []); gives = Version } ∷
    record { head = Property id.Client; singular = codes "client"; plural = Some (codes "clients"); argument = nothing; object = nothing; gives = Client } ∷
    record { head = Property id.Action; singular = codes "action"; plural = Some (codes "actions"); argument = nothing; object = nothing; gives = Action } ∷
    record { head = Property id.Setting; singular = codes "setting"; plural = Some (codes "settings"); argument = none_or (Text ∷ []); object = one_of (Client ∷ []); gives = Setting } ∷
    record { head = Property id.Value; singular = codes "value"; plural = Some (codes "values"); argument = nothing; object = one_of (Setting ∷ []); gives = Text } ∷
    record { head = Property id.EffectiveDate; singular = codes "effective date"; plural = Some (codes "effective dates"); argument = nothing; object = one_of (Setting ∷ []); gives = Time } ∷
    record { head = Property id.IntegerIn; singular = codes "integer in"; plural = Some (codes "integers in"); argument = two_integers; object = nothing; gives = Integer } ∷
    record { head = Property id.Length; singular = codes "length"; plural = Some (codes "lengths"); argument = nothing; object = one_of (Text ∷ []); gives = Integer } ∷
    record { head = Property id.First; singular = codes "first"; plural = Some (codes "firsts"); argument = one_of (Text ∷ []); object = one_of (Text ∷ []); gives = Part } ∷
    record { head = Property id.Last; singular = codes "last"; plural = Some (codes "lasts"); argument = one_of (Text ∷ []); object = one_of (Text ∷ []); gives = Part } ∷
    record { head = Property id.PrecedingText; singular = codes "preceding text"; plural = Some (codes "preceding texts"); argument = nothing; object = one_of (Part ∷ []); gives = Text } ∷
    record { head = Property id.FollowingText; singular = codes "following text"; plural = Some (codes "following texts"); argument = nothing; object = one_of (Part ∷ []); gives = Text } ∷
    record { head = Property id.SubstringSeparatedBy; singular = codes "substring separated by"; plural = Some (codes "substrings separated by"); argument = one_of (Text ∷ []); object = one_of (Text ∷ []); gives = Text } ∷
    record { head = Property id.Parameter; singular = codes "parameter"; plural = Some (codes "parameters"); argument = one_of (Text ∷ []); object = none_or (Action ∷ []); gives = Text } ∷
    record { head = Property id.ExitCode; singular = codes "exit code"; plural = Some (codes "exit codes"); argument = nothing; object = one_of (Action ∷ []); gives = Integer } ∷
    []
