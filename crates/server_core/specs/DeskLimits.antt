-- How much a server of the desk keeps.
use Rattle.server_core.specs.declared.limits.Limits.{Limits}

abbrev pub desk_limits : Limits
desk_limits = record { sites = 100; actions = 1000; files = 500; computers = 100000; reports = 2000000 }
