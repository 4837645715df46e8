-- A command that isn't refused names paths.
use Rattle.std.proofs.Common.{◌≡◌, ℕ, ◌<◌, Bool, true, false, ◌&&◌, not, nat_lt, Decides, List, ◌∷◌, [], Some, None, refl, ap, arith}
use Rattle.std.specs.declared.option.Option.{Option}
use Rattle.std.specs.List.{list_all}
use Rattle.std.specs.Option.{IfSome}
use Rattle.std.specs.Str.{bytes_eq, is_utf8}
use Rattle.std.proofs.lemmas.Bool.Decides.{nat_tests, Decides-by_and}
use Rattle.std.proofs.lemmas.Str.{IsUtf8-from_ascii, is_utf8-from_IsUtf8}
use Rattle.std.proofs.lemmas.Str.Ascii.{IsAscii-from_all}
use Rattle.line_forms.specs.Paths.{IsPath}
use Rattle.bf_world.specs.declared.command.Command.{Command}
use Rattle.bf_world.specs.declared.command.Command.TheVariants as command
use Rattle.bf_world.specs.declared.command.Reason.{Reason}
use Rattle.bf_world.specs.declared.command.Reason.TheVariants as reason
use Rattle.bf_world.specs.Paths.{root, is_part, is_path, is_free, joined}
use Rattle.bf_world.specs.Done.{write_checks, copy_checks, make_checks, place_checks, checks, refusal, download}
use Rattle.bf_world.specs.Worlds.{WorldState}
use Rattle.bf_world.proofs.PathTests.{ArePieces, AreRootless, path-Decides}

-- a check that doesn't refuse holds, and the checks behind it refuse nothing
passed : (b : Bool) (reason : Reason) (rest : List (Bool × Reason)) → refusal ((b, reason) ∷ rest) ≡ None → (b ≡ true) × (refusal rest ≡ None)
passed true reason rest none = (refl, none)
passed false reason rest none = absurd (cc)

free-path : ArePieces → AreRootless → (path : List ℕ) → is_free path ≡ true → IsPath path
unfolding is_free
free-path pieces_are rootless path is =
    elim (is_path path) as (λ b. (b ≡ true → IsPath path) → (b && not (bytes_eq path root)) ≡ true → IsPath path) [
      | true ↦ λ path_is free. path_is refl
      | false ↦ λ path_is free. absurd (cc)
    ] (path-Decides pieces_are rootless path).0 is

abbrev behind : List (Bool × Reason) → List (Bool × Reason)
behind [] = []
behind (check ∷ checks) = checks

-- the first path, or the second, that is tested
first-path : ArePieces → AreRootless → (path : List ℕ) (tests : List (Bool × Reason)) → refusal ((is_free path, reason.BadPath) ∷ behind tests) ≡ None → IsPath path
first-path pieces_are rootless path tests none = free-path pieces_are rootless path (passed (is_free path) reason.BadPath (behind tests) none).0

second-path : ArePieces → AreRootless → (b : Bool) (path : List ℕ) (tests : List (Bool × Reason)) → refusal ((b, reason.BadPath) ∷ (is_free path, reason.BadPath) ∷ behind (behind tests)) ≡ None → IsPath path
second-path pieces_are rootless b path tests none = first-path pieces_are rootless path (behind tests) (passed b reason.BadPath ((is_free path, reason.BadPath) ∷ behind (behind tests)) none).1

placed-path : ArePieces → AreRootless → (b : Bool) (path : List ℕ) (tests : List (Bool × Reason)) → refusal ((b, reason.BadPath) ∷ (is_path path, reason.BadPath) ∷ behind (behind tests)) ≡ None → IsPath path
placed-path pieces_are rootless b path tests none =
    (path-Decides pieces_are rootless path).0 (passed (is_path path) reason.BadPath (behind (behind tests)) (passed b reason.BadPath ((is_path path, reason.BadPath) ∷ behind (behind tests)) none).1).0

-- the path at which a command puts a file or a folder, if it puts one
abbrev pub target : Command → Option (List ℕ)
target (command.Write path content) = Some path
target (command.Append path content) = Some path
target (command.Copy from to) = Some to
target (command.Move from to) = Some to
target (command.MakeFolder path) = Some path
target (command.Place name content) = Some (joined download name)
target _ = None

pub target-path : ArePieces → AreRootless → (w : WorldState) (c : Command) → refusal (checks w c) ≡ None → IfSome (target c) IsPath
target-path pieces_are rootless w (command.Write path content) none = first-path pieces_are rootless path (write_checks w path) none
target-path pieces_are rootless w (command.Append path content) none = first-path pieces_are rootless path (write_checks w path) none
target-path pieces_are rootless w (command.Delete path) none = tt
target-path pieces_are rootless w (command.Copy from to) none = second-path pieces_are rootless (is_free from) to (copy_checks w from to) none
target-path pieces_are rootless w (command.Move from to) none = second-path pieces_are rootless (is_free from) to (copy_checks w from to) none
target-path pieces_are rootless w (command.MakeFolder path) none = first-path pieces_are rootless path (make_checks w path) none
target-path pieces_are rootless w (command.DropFolder path) none = tt
target-path pieces_are rootless w (command.Start line hidden) none = tt
target-path pieces_are rootless w (command.Put name value date) none = tt
target-path pieces_are rootless w (command.Drop name date) none = tt
target-path pieces_are rootless w (command.Place name content) none = placed-path pieces_are rootless (is_part name) (joined download name) (place_checks w name) none

-- the folder of fetched files stands at a path
low : (byte : ℕ) → Decides (nat_lt byte 128) (byte < 128)
low byte = (λ h. grind (arith, nat_tests), λ h. grind (arith, nat_tests))

download-utf8 : is_utf8 download ≡ true
download-utf8 =
    let test : ℕ → Bool = λ byte. nat_lt byte 128 in
    let all = (Decides-by_and test (λ byte. byte < 128) (list_all test) low refl (λ _ _. refl) download).0 refl in
    is_utf8-from_IsUtf8 download (IsUtf8-from_ascii download (IsAscii-from_all download all))

pub download-path : ArePieces → AreRootless → IsPath download
unfolding is_path is_part
download-path pieces_are rootless = (path-Decides pieces_are rootless download).0 (ap (λ b. b && true && true) download-utf8)
