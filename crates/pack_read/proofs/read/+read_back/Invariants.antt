-- The length of the file falls: a pack has a trailer.
use Rattle.std.proofs.Common.{length}
use Rattle.pack_read.proofs.read.+read_back.Given as goal

abbrev pub decreases-read_back : goal.decreases-read_back
decreases-read_back l = length l.file.now
