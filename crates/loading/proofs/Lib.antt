mod Alone
mod Agreeing
