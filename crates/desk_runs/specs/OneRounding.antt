-- Runs of an agent that are told in full. Only the law of what an agent does cites this.
use Rattle.std.specs.Prelude.{◌≡◌, ◌-◌, ◌^◌, ◌<◌}
use Rattle.agent_state.specs.States.{State}
use Rattle.agent_core.specs.Devices.{Devices, TellsWorld}
use Rattle.desk_runs.specs.AgentSteps.{AgentScene}
use Rattle.desk_runs.specs.OneExchanges.{LinkTold, TellsLink}

-- what the link tells, the state of the agent, and what its machine and its pocket tell
pub record AgentTold : Type 0 where
  pub link : LinkTold
  pub agent : State
  pub devices : Devices

-- These devices tell all. Their counts of faults can rise.
pub record TellsDevices (devices : Devices) : Type 0 where
  pub tells : TellsWorld devices
  pub machine_rises : devices.machine.faults < 2 ^ 64 - 1
  pub pocket_rises : devices.pocket.faults < 2 ^ 64 - 1

-- The link and the devices tell this, and the agent is in this state.
pub record TellsAgent (told : AgentTold) (scene : AgentScene) : Type 0 where
  pub link : TellsLink told.link scene.point.at.way.link
  pub agent : scene.point.at.client ≡ told.agent
  pub devices : scene.point.devices ≡ told.devices
  pub all : TellsDevices told.devices

-- Neither the link nor the machine nor the pocket failed.
pub record IsSteadyAgent (old new : AgentScene) : Type 0 where
  pub link : new.point.at.way.link.faults ≡ old.point.at.way.link.faults
  pub machine : new.point.devices.machine.faults ≡ old.point.devices.machine.faults
  pub pocket : new.point.devices.pocket.faults ≡ old.point.devices.pocket.faults

-- Both tell one thing: what the upstream was asked, what is still to come, what was looked up, done and saved, and the agent's state.
abbrev pub AgentsAlike : AgentScene → AgentScene → Type 0
AgentsAlike one other = (told : AgentTold) × TellsAgent told one × TellsAgent told other
