-- The answer's two bytes stand at their place.
use Rattle.capture_run.proofs.Putting.{put_whole}
use Rattle.capture_run.proofs.put.Goals as goal

pub returns : goal.returns
returns c = rw (c.copy_from_slice.ensures.after, c.number.ensures, c.value.ensures) (put_whole c.args.answers.now c.args.at c.args.answer c.requires)
