-- The worked numbers, and bytes at whose front no number stands.
use Rattle.std.proofs.Common.{◌≡◌, [], ◌∷◌, Ok, Err, refl}
use Rattle.cb_varint.specs.declared.fault.NumberFault.TheVariants.{Short, NotMinimal, TooLarge}
use Rattle.cb_varint.specs.Reading.{number_at, spelling}

nothing_spelled : spelling 0 ≡ 0 ∷ []
unfolding spelling
nothing_spelled = refl

greatest_of_one_byte : spelling 127 ≡ 0x7f ∷ []
unfolding spelling
greatest_of_one_byte = refl

least_of_two_bytes : spelling 128 ≡ 0x80 ∷ 1 ∷ []
unfolding spelling
least_of_two_bytes = refl

three_hundred : spelling 300 ≡ 0xac ∷ 2 ∷ []
unfolding spelling
three_hundred = refl

greatest_of_three_bytes : spelling 2097151 ≡ 0xff ∷ 0xff ∷ 0x7f ∷ []
unfolding spelling
greatest_of_three_bytes = refl

greatest : spelling 4294967295 ≡ 0xff ∷ 0xff ∷ 0xff ∷ 0xff ∷ 0x0f ∷ []
unfolding spelling
greatest = refl

reads_three_hundred : number_at (0xac ∷ 2 ∷ 7 ∷ []) ≡ Ok (300, 2)
unfolding number_at
reads_three_hundred = refl

reads_the_greatest : number_at (0xff ∷ 0xff ∷ 0xff ∷ 0xff ∷ 0x0f ∷ []) ≡ Ok (4294967295, 5)
unfolding number_at
reads_the_greatest = refl

ends_too_early : number_at (0xff ∷ 0xff ∷ 0xff ∷ 0xff ∷ []) ≡ Err Short
unfolding number_at
ends_too_early = refl

is_too_large : number_at (0x80 ∷ 0x80 ∷ 0x80 ∷ 0x80 ∷ 0x10 ∷ 0 ∷ []) ≡ Err TooLarge
unfolding number_at
is_too_large = refl

has_a_shorter_spelling : number_at (0x87 ∷ 0 ∷ []) ≡ Err NotMinimal
unfolding number_at
has_a_shorter_spelling = refl
