mod Loop
mod Digits
mod SymbolLines
