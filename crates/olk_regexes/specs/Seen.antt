-- What the values of the reader stand for.
use Rattle.std.specs.Prelude.{ℕ, Option, Some, None, List, [], ◌∷◌, Vec}
use Rattle.std.specs.declared.alloc.Global.{Global}
use Rattle.std.specs.Borrow.{Bor}
use Rattle.olk_regexes.specs.Language.{Text, Expr, one}
use Rattle.olk_regexes.specs.Escapes as escapes
use Rattle.olk_regexes.specs.Counts.{Counts}
use Rattle.olk_regexes.specs.declared.category.Category.{Category}
use Rattle.olk_regexes.specs.declared.class.Class.{Class}
use Rattle.olk_regexes.specs.declared.class.Characters.{Characters}
use Rattle.olk_regexes.specs.declared.escapes.Item.{Item}
use Rattle.olk_regexes.specs.declared.escapes.Item.TheVariants.{Char, Set, Property}
use Rattle.olk_regexes.specs.declared.classes.Member.{Member}
use Rattle.olk_regexes.specs.declared.classes.Member.TheVariants as member

abbrev pub seen : Option (Bor Text) → Option Text
seen None = None
seen (Some w) = Some w.now

abbrev pub seen_pair : ℕ × Bor Text → ℕ × Text
seen_pair p = (p.0, p.1.now)

abbrev pub seen_number : Option (ℕ × Bor Text) → escapes.Read ℕ
seen_number None = None
seen_number (Some p) = Some (p.0, p.1.now)

abbrev pub seen_counts : Option (Counts × Bor Text) → escapes.Read Counts
seen_counts None = None
seen_counts (Some p) = Some (p.0, p.1.now)

abbrev pub seen_category : Option (Category × Bor Text) → escapes.Read Category
seen_category None = None
seen_category (Some p) = Some (p.0, p.1.now)

-- a table of names
abbrev pub seen_names : List (Bor Text × Category) → List (Text × Category)
seen_names [] = []
seen_names (row ∷ rows) = (row.0.now, row.1) ∷ seen_names rows

abbrev pub seen_set : Option (Bor (List Characters)) → Option (List Characters)
seen_set None = None
seen_set (Some rs) = Some rs.now

abbrev pub item_of : Item → escapes.Item
item_of (Char c) = escapes.char c
item_of (Set rs) = escapes.set rs.now
item_of (Property p) = escapes.set (p ∷ [])

abbrev pub seen_item : Option (Item × Bor Text) → escapes.Read escapes.Item
seen_item None = None
seen_item (Some p) = Some (item_of p.0, p.1.now)

abbrev pub members_of : Member → List Characters
members_of (member.One r) = r ∷ []
members_of (member.Set rs) = rs.now

abbrev pub seen_member : Option (Member × Bor Text) → escapes.Read (List Characters)
seen_member None = None
seen_member (Some p) = Some (members_of p.0, p.1.now)

abbrev pub seen_members : Option (Vec Characters Global × Bor Text) → escapes.Read (List Characters)
seen_members None = None
seen_members (Some p) = Some (p.0.items, p.1.now)

abbrev pub expr_of_class : Class → Expr
expr_of_class k = one k.negated k.members.items

abbrev pub seen_class : Option (Class × Bor Text) → escapes.Read Expr
seen_class None = None
seen_class (Some p) = Some (expr_of_class p.0, p.1.now)
