-- The fields of an instruction word. Source: MIPS32 manual, volume I, the instruction formats (I, J and R),
-- and volume II for the codes of traps and stops.
use Rattle.std.specs.Prelude.{ℕ, ◌/◌, ◌%◌, ◌^◌, ◌==◌, ◌||◌, if◌then◌else◌}
use Rattle.mips_isa.specs.declared.fields.Fields.{Fields}
use Rattle.mips_isa.specs.Words.{field}

abbrev pub fields_of : ℕ → Fields
fields_of word = record {
  op = word / 2 ^ 26;
  rs = field word 21 5;
  rt = field word 16 5;
  rd = field word 11 5;
  sa = field word 6 5;
  funct = word % 2 ^ 6;
  half = word % 2 ^ 16;
  target = word % 2 ^ 26;
  trap_code = field word 6 10;
  stop_code = field word 6 20;
}

-- the number that tells the members of one op apart
abbrev pub part_of : ℕ → ℕ → ℕ → ℕ
part_of op rt funct =
    if (op == 0x00) || (op == 0x1c) then funct else (if (op == 0x01) || (op == 0x06) || (op == 0x07) then rt else 0)
