-- A word put together from fields that fit splits into these fields, and a word is put together again from
-- its own fields. `rest` holds the overlapping fields that are not of the word's format.
use Rattle.std.proofs.Common.{◌≡◌, ℕ, ◌+◌, ◌*◌, ◌/◌, ◌%◌, ◌^◌, ◌<◌, arith}
use Rattle.mips_isa.specs.declared.fields.Fields.{Fields}
use Rattle.mips_isa.specs.Encoding.{register_word, half_word}
use Rattle.mips_isa.specs.Fields.{fields_of}
use Rattle.mips_isa.specs.Words.{field}

same_register_fields : (f : Fields) (op rs rt rd sa funct : ℕ) → f.op ≡ op → f.rs ≡ rs → f.rt ≡ rt → f.rd ≡ rd → f.sa ≡ sa → f.funct ≡ funct → f ≡ record f { op = op; rs = rs; rt = rt; rd = rd; sa = sa; funct = funct }
same_register_fields f op rs rt rd sa funct e1 e2 e3 e4 e5 e6 =
    rw (← e1, ← e2, ← e3, ← e4, ← e5, ← e6)

same_half_fields : (f : Fields) (op rs rt half : ℕ) → f.op ≡ op → f.rs ≡ rs → f.rt ≡ rt → f.half ≡ half → f ≡ record f { op = op; rs = rs; rt = rt; half = half }
same_half_fields f op rs rt half e1 e2 e3 e4 = rw (← e1, ← e2, ← e3, ← e4)

same_target : (f : Fields) (op target : ℕ) → f.op ≡ op → f.target ≡ target → f ≡ record f { op = op; target = target }
same_target f op target e1 e2 = rw (← e1, ← e2)

same_trap_fields : (f : Fields) (op rs rt code funct : ℕ) → f.op ≡ op → f.rs ≡ rs → f.rt ≡ rt → f.trap_code ≡ code → f.funct ≡ funct → f ≡ record f { op = op; rs = rs; rt = rt; trap_code = code; funct = funct }
same_trap_fields f op rs rt code funct e1 e2 e3 e4 e5 = rw (← e1, ← e2, ← e3, ← e4, ← e5)

same_stop_fields : (f : Fields) (op code funct : ℕ) → f.op ≡ op → f.stop_code ≡ code → f.funct ≡ funct → f ≡ record f { op = op; stop_code = code; funct = funct }
same_stop_fields f op code funct e1 e2 e3 = rw (← e1, ← e2, ← e3)

-- ---- from fields to a word and back

pub fields_of-register_word : (op funct rs rt rd sa : ℕ) → funct < 64 → rs < 32 → rt < 32 → rd < 32 → sa < 32 → (rest : Fields) × (fields_of (register_word (op, funct) rs rt rd sa) ≡ record rest { op = op; rs = rs; rt = rt; rd = rd; sa = sa; funct = funct })
fields_of-register_word op funct rs rt rd sa in_funct in_rs in_rt in_rd in_sa =
    let f : Fields = fields_of (register_word (op, funct) rs rt rd sa) in
    (f, same_register_fields f op rs rt rd sa funct (omega arith) (omega arith) (omega arith) (omega arith) (omega arith) (omega arith))

pub fields_of-half_word : (op rs rt half : ℕ) → rs < 32 → rt < 32 → half < 2 ^ 16 → (rest : Fields) × (fields_of (half_word op rs rt half) ≡ record rest { op = op; rs = rs; rt = rt; half = half })
fields_of-half_word op rs rt half in_rs in_rt in_half =
    let f : Fields = fields_of (half_word op rs rt half) in
    (f, same_half_fields f op rs rt half (omega arith) (omega arith) (omega arith) (omega arith))

pub fields_of-jump : (op target : ℕ) → target < 2 ^ 26 → (rest : Fields) × (fields_of (op * 2 ^ 26 + target) ≡ record rest { op = op; target = target })
fields_of-jump op target in_target =
    let f : Fields = fields_of (op * 2 ^ 26 + target) in
    (f, same_target f op target (omega arith) (omega arith))

pub fields_of-trap : (op rs rt code funct : ℕ) → rs < 32 → rt < 32 → code < 2 ^ 10 → funct < 64 → (rest : Fields) × (fields_of (op * 2 ^ 26 + rs * 2 ^ 21 + rt * 2 ^ 16 + code * 2 ^ 6 + funct) ≡ record rest { op = op; rs = rs; rt = rt; trap_code = code; funct = funct })
fields_of-trap op rs rt code funct in_rs in_rt in_code in_funct =
    let f : Fields = fields_of (op * 2 ^ 26 + rs * 2 ^ 21 + rt * 2 ^ 16 + code * 2 ^ 6 + funct) in
    (f, same_trap_fields f op rs rt code funct (omega arith) (omega arith) (omega arith) (omega arith) (omega arith))

pub fields_of-stop : (op code funct : ℕ) → code < 2 ^ 20 → funct < 64 → (rest : Fields) × (fields_of (op * 2 ^ 26 + code * 2 ^ 6 + funct) ≡ record rest { op = op; stop_code = code; funct = funct })
fields_of-stop op code funct in_code in_funct =
    let f : Fields = fields_of (op * 2 ^ 26 + code * 2 ^ 6 + funct) in
    (f, same_stop_fields f op code funct (omega arith) (omega arith) (omega arith))

-- ---- from a word to its fields and back

pub register_word-fields : (w op funct rs rt rd sa : ℕ) → op ≡ w / 2 ^ 26 → funct ≡ w % 2 ^ 6 → rs ≡ field w 21 5 → rt ≡ field w 16 5 → rd ≡ field w 11 5 → sa ≡ field w 6 5 → register_word (op, funct) rs rt rd sa ≡ w
register_word-fields w op funct rs rt rd sa e1 e2 e3 e4 e5 e6 = omega arith

pub half_word-fields : (w op rs rt half : ℕ) → op ≡ w / 2 ^ 26 → rs ≡ field w 21 5 → rt ≡ field w 16 5 → half ≡ w % 2 ^ 16 → half_word op rs rt half ≡ w
half_word-fields w op rs rt half e1 e2 e3 e4 = omega arith

pub jump-fields : (w op : ℕ) → op ≡ w / 2 ^ 26 → op * 2 ^ 26 + w % 2 ^ 26 ≡ w
jump-fields w op e = omega arith

pub trap-fields : (w op funct : ℕ) → op ≡ w / 2 ^ 26 → funct ≡ w % 2 ^ 6 → op * 2 ^ 26 + field w 21 5 * 2 ^ 21 + field w 16 5 * 2 ^ 16 + field w 6 10 * 2 ^ 6 + funct ≡ w
trap-fields w op funct e1 e2 = omega arith

pub stop-fields : (w op funct : ℕ) → op ≡ w / 2 ^ 26 → funct ≡ w % 2 ^ 6 → op * 2 ^ 26 + field w 6 20 * 2 ^ 6 + funct ≡ w
stop-fields w op funct e1 e2 = omega arith
