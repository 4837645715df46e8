-- Times at which something is asked.
use Rattle.std.specs.Prelude.{◌≡◌, [], None}
use Rattle.rel_sources.specs.declared.scene.Scene.{Scene}

-- In the scene neither parameters nor an exit code are known.
pub record IsTime (scene : Scene) : Type 0 where
  pub parameters : scene.parameters ≡ []
  pub exit : scene.exit ≡ None
