use Rattle.laws.proofs.Basics.{◌∙◌}
use Rattle.language.specs.Symbols.{by_class}
use Rattle.symbols.proofs.Heads.{of-class, no-class, rest-is}
use Rattle.symbols.proofs.elements.element_at.Goals as goal

pub returns-in-1 : goal.returns-in-1
unfolding by_class
returns-in-1 c = c.word_at.ensures ∙ of-class _ _ c.class_of.ensures 1 c.in-1.is

pub returns-in-2 : goal.returns-in-2
unfolding by_class
returns-in-2 c = c.decimal_at.ensures ∙ of-class _ _ c.class_of.ensures 2 c.in-2.is

pub returns-in-4 : goal.returns-in-4
unfolding by_class
returns-in-4 c = rw rest-is at c.octal_at.ensures ∙ of-class _ _ c.class_of.ensures 4 c.in-4.is

pub returns-in-5 : goal.returns-in-5
unfolding by_class
returns-in-5 c = rw rest-is at c.character_at.ensures ∙ of-class _ _ c.class_of.ensures 5 c.in-5.is

pub returns-in-6 : goal.returns-in-6
unfolding by_class
returns-in-6 c = rw rest-is at c.string_at.ensures ∙ of-class _ _ c.class_of.ensures 6 c.in-6.is

pub returns-in-7 : goal.returns-in-7
unfolding by_class
returns-in-7 c = c.sign_or_comment.ensures ∙ of-class _ _ c.class_of.ensures 7 c.in-7.is

pub returns-in-8 : goal.returns-in-8
unfolding by_class
returns-in-8 c = of-class _ _ c.class_of.ensures 8 c.in-8.is

pub returns-in-9 : goal.returns-in-9
unfolding by_class
returns-in-9 c = of-class _ _ c.class_of.ensures 9 c.in-9.is

pub returns-in_default : goal.returns-in_default
returns-in_default c = c.refused_here.ensures ∙ no-class _ _ c.class_of.ensures c.in_default.in_default-own.rest
