use Rattle.path.proofs.Wrongs.{exactly}
use Rattle.path.proofs.checked.check_path.Goals as goal

pub returns-in_err-segment-clause-exact : goal.returns-in_err-segment-clause-exact
returns-in_err-segment-clause-exact g c = exactly _ _

pub returns-clause-exact : goal.returns-clause-exact
returns-clause-exact g c = exactly _ _
