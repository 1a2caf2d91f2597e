use Rattle.copy_law.proofs.Lawful.{course_lawful}
use Rattle.copy_law.proofs.laws.every_course_is_lawful.Goals as goal

pub returns : goal.returns
returns c = course_lawful
