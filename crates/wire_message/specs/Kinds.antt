-- Words that are not just numbers from one to another.
use Rattle.std.specs.Prelude.{ℕ, ◌+◌, ◌-◌, ◌%◌, ◌==◌, ◌||◌, ◌&&◌, nat_lt, Ok, Err, Some, None, if◌then◌else◌}
use Rattle.wire_format.specs.declared.fault.Fault.TheVariants.{BadValue, TooLong}
use Rattle.wire_format.specs.WordKinds.{WordKind}
use Rattle.sane_fixed.specs.declared.byte_order.ByteOrder.{ByteOrder}
use Rattle.sane_fixed.specs.declared.byte_order.ByteOrder.TheVariants.{Little, Big}

-- a length of at least so much, and at most 1,024
abbrev pub length_from : ℕ → WordKind ℕ
length_from low = record {
  judge = λ n. if nat_lt 1024 n then Err TooLong else if nat_lt n low then Err BadValue else Ok n;
  part = λ least most. if nat_lt 1024 least then Some TooLong else if nat_lt most low then Some BadValue else None;
}

-- the size of whole words
abbrev pub words_size : WordKind ℕ
words_size = record {
  judge = λ n. if nat_lt 4096 n then Err TooLong else if n % 4 == 0 then Ok n else Err BadValue;
  part = λ least most. if nat_lt 4096 least then Some TooLong else None;
}

-- where a number stands among the signed ones
abbrev pub place : ℕ → ℕ
place n = if nat_lt n 2147483648 then n + 2147483648 else n - 2147483648

-- a signed number that is no smaller
abbrev pub at_least : ℕ → WordKind ℕ
at_least low = record {
  judge = λ n. if nat_lt (place n) (place low) then Err BadValue else Ok n;
  part = λ least most. if nat_lt least 2147483648 && nat_lt 2147483647 most then None
      else if nat_lt (place most) (place low) then Some BadValue else None;
}

-- 0x1234 for little-endian, 0x4321 for big-endian
abbrev pub order : WordKind ByteOrder
order = record {
  judge = λ n. if n == 4660 then Ok Little else if n == 17185 then Ok Big else Err BadValue;
  part = λ least most. if nat_lt 4660 least || nat_lt most 4660
      then (if nat_lt 17185 least || nat_lt most 17185 then Some BadValue else None) else None;
}
