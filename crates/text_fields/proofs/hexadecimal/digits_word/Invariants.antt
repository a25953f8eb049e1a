use Rattle.std.proofs.Common.{◌≡◌, ◌<◌, ◌^◌, true, take}
use Rattle.std.specs.List.{list_all}
use Rattle.std.specs.Str.Parse.{digits_value}
use Rattle.text_fields.specs.Numbers.{is_hex_digit}
use Rattle.text_fields.proofs.hexadecimal.digits_word.Given as goal

abbrev pub invariant-loop-c : goal.invariant-loop-c
invariant-loop-c l = record {
  digits : list_all is_hex_digit (take l.c-index l.digits) ≡ true;
  sum : l.sum ≡ digits_value 16 (take l.c-index l.digits);
  low : l.sum < 16 ^ l.c-index;
}
