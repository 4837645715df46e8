use Rattle.std.proofs.Common.{◌≡◌, ◌⊎◌, ℕ, List, subst, sym}
use Rattle.desk_door.specs.declared.link.Exchanged.{Exchanged}
use Rattle.desk_hosts.specs.HostCalls.{no_memory}
use Rattle.desk_hosts.specs.declared.file.Came.TheVariants as of_came
use Rattle.desk_hosts.specs.RelayFiles.{ComesOf, ReadsCame}
use Rattle.desk_hosts.proofs.file.came_of_exchange.Goals as goal

pub returns-in-Reply : goal.returns-in-Reply
returns-in-Reply c =
    let P : List ℕ → Type 0 = λ bytes. (c.read_came.result ≡ of_came.Nothing no_memory) ⊎ ReadsCame bytes c.read_came.result in
    let E : Exchanged → Type 0 = λ exchanged. ComesOf exchanged c.read_came.result in
    subst E (sym c.in-Reply.is) (subst P c.as_slice.ensures c.read_came.ensures)
