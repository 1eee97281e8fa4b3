use Rattle.std.proofs.Common.{refl}
use Rattle.text.specs.Lines.{reading_from, literal_in, digits_in, number_in, numbers_in, letters_in, call_of}
use Rattle.text.proofs.laws.places.Goals as goal

pub returns : goal.returns
unfolding reading_from literal_in digits_in number_in numbers_in letters_in call_of
returns c = (refl, refl, refl, refl, refl, refl, refl, refl, refl, refl, refl)
