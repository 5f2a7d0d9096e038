use Rattle.operations.proofs.Asking.{sends_of}
use Rattle.operations.proofs.questions.send.Goals as goal

pub returns : goal.returns
returns g c bytes u = sends_of bytes _ _ _ _ _ _ _ _ _ c.requires.workspace_long c.word-asked.ensures c.word-second.ensures (u.sent _ _ _ _ _ c.write-cursor.ensures) (u.sent _ _ _ _ _ c.write.ensures) c.set_word.ensures
