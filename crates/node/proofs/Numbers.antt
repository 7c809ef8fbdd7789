-- The numbers of the answers, as the type has them. Assumes nothing.
use Rattle.pala.specs.Answers.{number}
use Rattle.table.specs.declared.Answer.{Answer}
use Rattle.table.specs.contracts.Answer.{the_type}
use denote.Enum.Declared.{tag_of}
use mathlib.Core.Path.{◌≡◌, refl}

pub tag_number : (a : Answer) → tag_of the_type a ≡ number a
unfolding number
tag_number Answer.Taken = refl
tag_number Answer.State = refl
tag_number Answer.Torn = refl
tag_number Answer.Length = refl
tag_number Answer.Kind = refl
tag_number Answer.Filler = refl
tag_number Answer.Sender = refl
tag_number Answer.Epoch = refl
tag_number Answer.Name = refl
tag_number Answer.Unknown = refl
tag_number Answer.Order = refl
tag_number Answer.Turn = refl
tag_number Answer.Repeat = refl
tag_number Answer.Nothing = refl
tag_number Answer.Full = refl
tag_number Answer.Setup = refl
