-- All of this belongs to what the program promises (docs/promise.txt).
-- The reserved words and the signs, as kinds of tokens: a short name for each, which the lines of the grammar and the
-- parser's tables write.
use Rattle.sp_tree.specs.declared.token.Kind.{Kind}
use Rattle.sp_tree.specs.declared.token.Kind.TheVariants as kind

-- words, by their position in the alphabetical list
abbrev pub And : Kind
And = kind.Word 0

abbrev pub Array : Kind
Array = kind.Word 1

abbrev pub Assume : Kind
Assume = kind.Word 2

abbrev pub Begin : Kind
Begin = kind.Word 3

abbrev pub Case : Kind
Case = kind.Word 4

abbrev pub Const : Kind
Const = kind.Word 5

abbrev pub Div : Kind
Div = kind.Word 6

abbrev pub Do : Kind
Do = kind.Word 7

abbrev pub Downto : Kind
Downto = kind.Word 8

abbrev pub Else : Kind
Else = kind.Word 9

abbrev pub End : Kind
End = kind.Word 10

abbrev pub For : Kind
For = kind.Word 11

abbrev pub Forall : Kind
Forall = kind.Word 12

abbrev pub Function : Kind
Function = kind.Word 13

abbrev pub If : Kind
If = kind.Word 14

abbrev pub Mod : Kind
Mod = kind.Word 15

abbrev pub Not : Kind
Not = kind.Word 16

abbrev pub Of : Kind
Of = kind.Word 17

abbrev pub Or : Kind
Or = kind.Word 18

abbrev pub Parallel : Kind
Parallel = kind.Word 19

abbrev pub Procedure : Kind
Procedure = kind.Word 20

abbrev pub Program : Kind
Program = kind.Word 21

abbrev pub Record : Kind
Record = kind.Word 22

abbrev pub Repeat : Kind
Repeat = kind.Word 23

abbrev pub Then : Kind
Then = kind.Word 24

abbrev pub To : Kind
To = kind.Word 25

abbrev pub Type' : Kind
Type' = kind.Word 26

abbrev pub Until : Kind
Until = kind.Word 27

abbrev pub Var : Kind
Var = kind.Word 28

abbrev pub While : Kind
While = kind.Word 29

-- signs: + - * = <> < <= > >= ( ) [ ] := . , ; : .. |
abbrev pub Plus : Kind
Plus = kind.Sign 0

abbrev pub Minus : Kind
Minus = kind.Sign 1

abbrev pub Times : Kind
Times = kind.Sign 2

abbrev pub Equal : Kind
Equal = kind.Sign 3

abbrev pub Unequal : Kind
Unequal = kind.Sign 4

abbrev pub Less : Kind
Less = kind.Sign 5

abbrev pub AtMost : Kind
AtMost = kind.Sign 6

abbrev pub Greater : Kind
Greater = kind.Sign 7

abbrev pub AtLeast : Kind
AtLeast = kind.Sign 8

abbrev pub Open : Kind
Open = kind.Sign 9

abbrev pub Close : Kind
Close = kind.Sign 10

abbrev pub OpenIndex : Kind
OpenIndex = kind.Sign 11

abbrev pub CloseIndex : Kind
CloseIndex = kind.Sign 12

abbrev pub Becomes : Kind
Becomes = kind.Sign 13

abbrev pub Dot : Kind
Dot = kind.Sign 14

abbrev pub Comma : Kind
Comma = kind.Sign 15

abbrev pub Semicolon : Kind
Semicolon = kind.Sign 16

abbrev pub Colon : Kind
Colon = kind.Sign 17

abbrev pub Range : Kind
Range = kind.Sign 18

abbrev pub Bar : Kind
Bar = kind.Sign 19
